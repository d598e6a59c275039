-- Right because the kind stays, and each value is shortened in its place. Assumes nothing.
use native.Mathlib.Omega.{arith}
use Rattle.values.proofs.InPlace.{slot-in-place}
use Rattle.values.proofs.shorten_slot.Goals as goal

pub returns : goal.returns
returns c =
    let a = c.args in
    slot-in-place a.dst.now c.shorten_at.new.dst c.shorten_at-2.new.dst a.at (omega arith)
    c.shorten_at.ensures c.shorten_at-2.ensures
