-- Right because the action is written after the key of entry i, up to its end. Assumes nothing.
use Prim.Native.Nat.{ℕ, ◌+◌, ◌*◌, ◌-◌}
use native.Mathlib.Omega.{arith}
use mathlib.Core.List.{List}
use Rattle.buffers.proofs.Splice.{part-copied}
use Rattle.store.proofs.Writes.{action-over}
use Rattle.store.proofs.replace_action.Goals as goal

pub returns : goal.returns
returns c =
    let a = c.args in
    let w = c.copy in
    let s : List ℕ = a.store.now in
    let new : List ℕ = a.action.now in
    let at : ℕ = 220 * a.i + 148 in
    rw (part-copied s w.new.dst new at (at + 72 - at) w.ensures (omega arith) (omega arith))
    (action-over a.i a.tables s new (omega arith) (omega arith) (omega arith) (omega arith))
