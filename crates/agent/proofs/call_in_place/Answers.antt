-- Right because 2 is tested first and 1 next, and any other command is carried out. Assumes nothing.
use Prim.Native.Nat.{ℕ, ◌≤◌}
use native.Mathlib.Omega.{arith}
use mathlib.Core.Path.{◌≡◌, sym, ◌∙◌}
use mathlib.Core.Bool.{Bool, not, true, false}
use lib.ListN.{length}
use borrow.Author.Tests.{not-true, not-false}
use Rattle.rules.specs.Call.{long_enough}
use Rattle.answers.proofs.AnswerBytes.{head-alone}
use Rattle.agent.proofs.Ways.{lengths, short-met, met, malformed-met}
use Rattle.agent.proofs.call_in_place.Goals as goal

-- the buffers are long enough
long : (m n : ℕ) {r : Bool} → r ≡ not (long_enough m n) → r ≡ false → long_enough m n ≡ true
long m n e z = not-false _ (sym e ∙ z)

sizes : (m n : ℕ) {r : Bool} → r ≡ not (long_enough m n) → r ≡ false → (57_344 ≤ n) × (56_320 ≤ m)
sizes m n e z = lengths m n (long m n e z)

pub returns-then-too_short : goal.returns-then-too_short
returns-then-too_short c =
    let a = c.args in
    rw c.number.ensures (short-met a.agent.now a.frame.now a.store.now a.answer.now (not-true _ (sym c.too_short.ensures ∙ c.if-too_short.true)))

pub write_head-requires : goal.write_head-requires
write_head-requires c =
    let a = c.args in
    omega (arith, (sizes (length a.store.now) (length a.answer.now) c.too_short.ensures c.if-too_short.false).0)

pub returns-in_default : goal.returns-in_default
returns-in_default c =
    let a = c.args in
    rw c.number-in_default-2.ensures
    (malformed-met a.agent.now a.frame.now a.store.now a.answer.now (long (length a.store.now) (length a.answer.now) c.too_short.ensures c.if-too_short.false)
    c.write_head.new.answer c.in_default.ensures.means
    (head-alone 1 a.answer.now _ (rw c.number-in_default.ensures at c.write_head.ensures)))

pub carry_out-requires : goal.carry_out-requires
carry_out-requires c =
    let a = c.args in
    let z = sizes (length a.store.now) (length a.answer.now) c.too_short.ensures c.if-too_short.false in
    (c.in-Some.ensures.there, z.1, z.0)

pub returns : goal.returns
returns c =
    let a = c.args in
    rw c.number-2.ensures
    (met a.agent.now a.frame.now a.store.now a.answer.now (long (length a.store.now) (length a.answer.now) c.too_short.ensures c.if-too_short.false)
    c.in-Some.ensures.means c.carry_out.ensures)
