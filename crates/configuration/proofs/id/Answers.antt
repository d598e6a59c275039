-- Right because the first four of fewer bytes are all of them. Assumes nothing.
use Rattle.std.proofs.Common.{◌≡◌, min, ap, ◌∙◌, arith}
use Rattle.rules.specs.Bytes.{int, number}
use Rattle.rows.proofs.Held.{take_within}
use Rattle.configuration.proofs.id.Goals as goal

pub returns : goal.returns
returns g c =
    let b = c.args.b.now in
    let swap : min g.row.N 4 ≡ min 4 g.row.N = omega arith in
    c.integer.ensures ∙ ap (λ k. int 0 k b) (c.min.ensures ∙ swap) ∙ ap number (take_within 4 g.row.N b (omega arith))
