-- Right because each turn undoes the last note that is left. Assumes nothing.
use Prim.Native.Nat.{◌+◌, ◌-◌}
use native.Mathlib.Omega.{arith}
use mathlib.Core.Path.{◌≡◌, refl}
use Rattle.batches.proofs.AllOrNone.{back-next, back_end}
use Rattle.batches.proofs.roll_back.Goals as goal

pub loop-i-init : goal.loop-i-init
loop-i-init c = (omega arith, λ goal u. record { room = refl; beyond = refl; undoes = u })

pub loop-i-preserved : goal.loop-i-preserved
loop-i-preserved c =
    let u = c.undo-held in
    let l = c.loop-i in
    let m : l.i ≡ l.i - 1 + 1 = omega arith in
    (u.ensures.bound, λ goal v. back-next (l.invariant.1 goal v) m u.ensures.left.0)

pub returns : goal.returns
returns c =
    let z : c.loop-i.i ≡ 0 = omega arith in
    λ goal u. back_end (c.loop-i.invariant.1 goal u) z c.loop-i.invariant.0
