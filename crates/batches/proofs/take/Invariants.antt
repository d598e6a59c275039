-- Right because each step does what the rules say to what the steps before it left, and with atomicity 1 is noted after them or
-- stops the batch. Assumes nothing.
use Prim.Native.Nat.{◌*◌, ◌≤◌}
use mathlib.Core.Path.{◌≡◌}
use lib.ListN.{length, drop}
use Rattle.rows.specs.Meaning.{rows_of}
use Rattle.batches.proofs.Taking.{Taking}
use Rattle.batches.proofs.take.Given as goal

abbrev pub invariant-loop-i : goal.invariant-loop-i
invariant-loop-i l =
    (l.held.count ≤ 256)
    × (drop (2 * length l.updates) l.answer ≡ drop (2 * length l.updates) l.initial.answer)
    × Taking (rows_of l.rows) l.role l.atomicity l.initial.held l.updates l.initial.store l.initial.answer l.store l.log l.answer l.held l.failed l.i
