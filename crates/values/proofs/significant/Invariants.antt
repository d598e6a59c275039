-- Right because what is left of the digits is stripped to what all of them are stripped to. Assumes nothing.
use Prim.Native.Nat.{◌+◌, ◌-◌}
use mathlib.Core.Path.{◌≡◌}
use Rattle.rules.specs.Bytes.{part}
use Rattle.rules.specs.Value.{stripped}
use Rattle.values.proofs.significant.Given as goal

abbrev pub invariant-loop-i : goal.invariant-loop-i
invariant-loop-i l = stripped (part (l.at + 1) l.n l.v) ≡ stripped (part (l.at + l.i) (l.n + 1 - l.i) l.v)
