-- Right because 256 to the k is 2 to the 8 k. Assumes nothing.
use Prim.Native.Nat.{◌*◌}
use native.Mathlib.Omega.{arith}
use mathlib.Core.Path.{sym, ◌∙◌}
use Rattle.numbers.proofs.Bits.{one_shl, byte-bits}
use Rattle.values.proofs.power.Goals as goal

pub returns : goal.returns
returns c = one_shl (8 * c.args.k) (omega arith) ∙ sym (byte-bits c.args.k)
