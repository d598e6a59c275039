-- Right because of a DELETE the action is not looked at, and of the others all is. Assumes nothing.
use Rattle.std.proofs.Common.{◌≡◌, sym, ◌∙◌, drop, arith}
use lib.Seq.{take-take}
use mathlib.Core.Bool.{and-true}
use borrow.Author.Tests.{eq-eqb, ne_eqb}
use Rattle.rules.specs.Update.{entry_formed, entry_fits}
use Rattle.rules.specs.Key.{key_formed, key_fits}
use Rattle.rules.specs.Bytes.{part}
use Rattle.rows.specs.Meaning.{row_of}
use Rattle.checks.proofs.entry_reason.Goals as goal

pub returns-then-kind-eq-DELETE : goal.returns-then-kind-eq-DELETE
unfolding entry_formed entry_fits
returns-then-kind-eq-DELETE c =
    let a = c.args in
    let row = row_of a.row.now in
    let e = a.entry.now in
    let key : c.unwrap.result.now ≡ part 4 144 e =
    (rw c.unwrap.ensures at c.first_chunk.ensures.cases).same ∙ take-take 144 216 (drop 4 e) (omega arith) in
    rw (eq-eqb a.kind 3 c.if-kind-eq-DELETE.true, and-true (key_formed row e), and-true (key_fits row e)) (c.key_reason.ensures e (sym key))

pub returns : goal.returns
unfolding entry_formed entry_fits
returns c = rw (ne_eqb c.args.kind 3 c.if-kind-eq-DELETE.false) c.whole_reason.ensures
