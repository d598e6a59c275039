-- Right because the bytes after the entry are moved down by its width. Assumes nothing.
use Prim.Native.Nat.{ℕ, suc, ◌+◌, ◌*◌, ◌-◌}
use native.Mathlib.Omega.{arith}
use mathlib.Core.Path.{◌≡◌}
use mathlib.Core.List.{List}
use lib.ListN.{length, take, drop}
use Rattle.buffers.proofs.Splice.{drop-splice, length-splice, length-window}
use Rattle.store.proofs.Writes.{parts-close}
use Rattle.store.proofs.remove.Goals as goal

pub returns : goal.returns
returns c =
    let a = c.args in
    let s : List ℕ = a.store.now in
    let to : ℕ = 220 * a.i in
    let k : ℕ = 220 * a.tables.count - (to + 220) in
    let moved : List ℕ = take k (drop (to + 220) s) in
    let l : length moved ≡ k = length-window (to + 220) k s (omega arith) in
    let n : suc (a.tables.count - 1) ≡ a.tables.count = omega arith in
    rw c.shift.ensures (record {
      holds = rw n at (parts-close a.i (a.tables.count - 1) 220 k s (omega arith) (omega arith) (omega arith));
      few = omega arith;
      room = length-splice s to moved (omega arith);
      beyond = drop-splice 56_320 s to moved (omega arith) (omega arith);
    })
