-- Right because all bytes are copied, and each turn brings one more of the slots into shortest form in place, the last first.
-- Assumes nothing.
use Prim.Native.Nat.{◌+◌, ◌*◌, ◌-◌}
use Rattle.rules.specs.Bytes.{part}
use Rattle.rules.specs.Key.{short_slot}
use Rattle.values.proofs.InPlace.{Replaced}
use Rattle.values.proofs.shorten_key.Given as goal

abbrev pub invariant-loop-i : goal.invariant-loop-i
invariant-loop-i l = Replaced short_slot 35 (part 0 148 l.entry) l.initial.dst (35 * l.i + 8) (4 - l.i) l.dst
