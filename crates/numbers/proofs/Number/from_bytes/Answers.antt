-- Right because the library adds the bytes by their place values. Assumes nothing.
use mathlib.Core.Path.{◌≡◌, ◌∙◌}
use borrow.Author.Rules.{rules}
use Rattle.numbers.proofs.Bytes.{from_be}
use Rattle.numbers.proofs.Number.from_bytes.Goals as goal

pub returns : goal.returns
returns c =
    let e : c.unwrap.result ≡ c.args.b.now = search rules in
    c.from.ensures ∙ c.from_be_bytes.ensures ∙ (rw e (from_be c.args.b.now c.requires))
