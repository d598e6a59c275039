-- Right because all bytes are copied, and each turn brings one more of the parameters into shortest form in place, the last first.
-- Assumes nothing.
use Prim.Native.Nat.{◌+◌, ◌*◌, ◌-◌}
use Rattle.rules.specs.Bytes.{part}
use Rattle.rules.specs.Value.{short}
use Rattle.values.proofs.InPlace.{Replaced}
use Rattle.values.proofs.shorten_action.Given as goal

abbrev pub invariant-loop-i : goal.invariant-loop-i
invariant-loop-i l = Replaced short 17 (part 148 72 l.entry) l.initial.dst (17 * l.i + 4) (4 - l.i) l.dst
