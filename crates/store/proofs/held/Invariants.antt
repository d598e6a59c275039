-- Right because the count so far and the entries of the table that are left make up all of them. Assumes nothing.
use Prim.Native.Nat.{◌+◌, ◌≤◌}
use mathlib.Core.Path.{◌≡◌}
use lib.ListN.{length}
use Rattle.rules.specs.Update.{held as held_in}
use Rattle.store.proofs.Scan.{left}
use Rattle.store.proofs.held.Given as goal

abbrev pub invariant-loop-e : goal.invariant-loop-e
invariant-loop-e l =
    (l.n ≤ l.e-index) × (held_in l.table (record { entries = l.entries }) ≡ l.n + length (left l.table l.entries l.e-index))
