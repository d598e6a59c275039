-- Right because the records are the first of four parts, and what is past them the others. Assumes nothing.
use Rattle.std.proofs.Common.{◌≡◌, ◌≤◌, ◌*◌, ◌/◌, length, take, drop, cond, Some, None, ap, ap₂, ◌∙◌, arith, rules}
use Rattle.std.proofs.Math.Nat.{mul-div_cancel}
use Rattle.std.specs.Option.{option_copied}
use borrow.Author.Tests.{le-leb}
use Rattle.rules.specs.Bytes.{all_zero, parts}
use Rattle.rules.proofs.Lists.{rest_all}
use Rattle.rows.proofs.Chunks.{chunks-are}
use Rattle.configuration.proofs.Counted.{take_parts, few, given}
use Rattle.configuration.proofs.held.Goals as goal

pub returns : goal.returns
returns g c =
    let w = g.row.N in
    let n = c.args.count in
    let l = c.args.places.now in
    let four : length l / w ≡ 4 = rw (c.requires.1) (mul-div_cancel 4 c.requires.0) in
    let cs : c.as_chunks.result.0.now ≡ parts 4 w l = chunks-are w 4 l c.as_chunks.ensures.front four in
    let first : c.in_ok-records.records.now ≡ take c.from-n.result c.as_chunks.result.0.now = search rules in
    let fits : n ≤ 4 = omega (arith, c.in_ok-records.ensures.lookup.0.1, c.from-n.ensures, c.as_chunks.ensures.front_len, four) in
    let is : c.in_ok-records.records.now ≡ parts n w l = first ∙ ap₂ take c.from-n.ensures cs ∙ take_parts n 4 w l fits in
    let zero : c.all_zero.result ≡ all_zero (drop (w * n) l) =
    c.all_zero.ensures ∙ ap all_zero (rest_all (w * c.from-n.result) l) ∙ ap (λ k. all_zero (drop (w * k) l)) c.from-n.ensures in
    let all : c.all_zero.result ≡ few w n l = rw (le-leb n 4 fits) zero in
    ap option_copied c.then_some.ensures ∙ given c.all_zero.result c.in_ok-records.records is
    ∙ ap (λ b. cond b (Some (parts n w l)) None) all
