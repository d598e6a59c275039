-- Right because what is left of the digits is stripped to what all of them are stripped to. Assumes nothing.
use Prim.Native.Nat.{ℕ, suc, ◌+◌, ◌-◌}
use native.Mathlib.Omega.{arith}
use mathlib.Core.Path.{◌≡◌, ◌∙◌}
use Rattle.values.proofs.Digits.{zero-goes, other-stays, last-stays}
use Rattle.values.proofs.significant.Goals as goal

pub loop-i-init : goal.loop-i-init
loop-i-init c =
    let n : ℕ = c.args.n in
    let e : n + 1 - 1 ≡ n = omega arith in
    rw e

pub returns-then-v-at-ne0 : goal.returns-then-v-at-ne0
returns-then-v-at-ne0 c =
    let a = c.args in
    let n : ℕ = a.n in
    let i : ℕ = c.loop-i.i in
    let e : n + 1 - i ≡ suc (n - i) = omega arith in record { bounds = (omega arith, omega arith); digits = c.loop-i.invariant ∙ rw e (other-stays a.v.now (a.at + i) (n - i) (omega arith) c.if-v-at-ne0.true) }

pub loop-i-preserved : goal.loop-i-preserved
loop-i-preserved c =
    let a = c.args in
    let n : ℕ = a.n in
    let i : ℕ = c.loop-i.i in
    let e : n + 1 - i ≡ suc (n - i) = omega arith in
    let f : n + 1 - (i + 1) ≡ n - i = omega arith in
    let g : a.at + (i + 1) ≡ suc (a.at + i) = omega arith in
    c.loop-i.invariant ∙ rw (e, f, g) (zero-goes a.v.now (a.at + i) (n - i) (omega arith) c.if-v-at-ne0.false)

pub returns : goal.returns
returns c =
    let a = c.args in
    let n : ℕ = a.n in
    let all : c.loop-i.i ≡ n = omega arith in
    let e : n + 1 - n ≡ 1 = omega arith in
    record { bounds = (omega arith, omega arith); digits = rw all at c.loop-i.invariant ∙ rw e (last-stays a.v.now (a.at + n) (omega arith)) }
