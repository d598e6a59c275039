-- Right because each turn puts one byte more below what was read. Assumes nothing.
use native.Mathlib.Omega.{arith}
use Prim.Native.Nat.{ℕ, ◌+◌, ◌<◌}
use mathlib.Core.Path.{◌≡◌, sym, ◌∙◌}
use lib.ListN.{drop, get_or, length-take, length-drop}
use lib.Seq.{get_or-take, get_or-drop}
use Rattle.buffers.proofs.Words.{pow-seven}
use Rattle.numbers.proofs.Bytes.{int-none, int-next, below_next}
use Rattle.numbers.proofs.integer.Goals as goal

pub loop-digit-init : goal.loop-digit-init
loop-digit-init c = (omega arith, sym (int-none c.args.at c.args.b.now))

pub overflow_mul-x : goal.overflow_mul-x
overflow_mul-x c = record { fits = omega (arith, pow-seven c.loop-digit.digit-index (omega arith)) }

pub loop-digit-preserved : goal.loop-digit-preserved
loop-digit-preserved c =
    let a = c.args in
    let k : ℕ = c.loop-digit.digit-index in
    let h : k < a.n = let g = simp (length-take, length-drop) at c.loop-digit-test.true in omega (arith, g) in
    let e : c.from.result ≡ get_or a.b.now (a.at + k) 0 =
    c.from.ensures ∙ get_or-take _ (drop a.at a.b.now) k 0 (omega arith) ∙ get_or-drop a.at a.b.now k 0 in (
      below_next c.loop-digit.x c.from.result k c.loop-digit.invariant.0 (omega arith),
      omega (arith, int-next a.at k a.b.now (omega arith)),
    )
