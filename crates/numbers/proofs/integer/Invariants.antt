-- Right because each turn puts one byte more below what was read. Assumes nothing.
use Prim.Native.Nat.{◌^◌, ◌<◌}
use mathlib.Core.Path.{◌≡◌}
use Rattle.rules.specs.Bytes.{int}
use Rattle.numbers.proofs.integer.Given as goal

abbrev pub invariant-loop-digit : goal.invariant-loop-digit
invariant-loop-digit l = (l.x < 256 ^ l.digit-index) × (l.x ≡ int l.at l.digit-index l.b)
