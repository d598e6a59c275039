-- Right because each turn undoes the last note that is left. Assumes nothing.
use Prim.Native.Nat.{ℕ, ◌≤◌}
use mathlib.Core.List.{List}
use lib.ListN.{length}
use Rattle.store.specs.Store.{entries_in}
use Rattle.batches.specs.Rollback.{Undoes}
use Rattle.batches.proofs.AllOrNone.{UndoneSoFar}
use Rattle.batches.proofs.roll_back.Given as goal

abbrev pub invariant-loop-i : goal.invariant-loop-i
invariant-loop-i l =
    (l.held.count ≤ 256)
    × ((goal : List (List ℕ)) → Undoes (length l.updates) l.log l.updates (entries_in l.initial.held l.initial.store) goal
    → UndoneSoFar goal l.log l.updates l.initial.store l.store l.held l.i)
