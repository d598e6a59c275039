-- Right because every place that is handed back is that of a value of slot i. Assumes nothing.
use Prim.Native.Nat.{◌-◌}
use native.Mathlib.Omega.{arith}
use mathlib.Core.Logic.{inl, inr}
use Rattle.keys.proofs.differing_value.Goals as goal

pub returns-then-differs-2 : goal.returns-then-differs-2
returns-then-differs-2 c = record { slot = c.loop-i.i - 1; few = omega arith; place = inr (omega arith) }

pub returns-then-differs-3 : goal.returns-then-differs-3
returns-then-differs-3 c = record { slot = c.loop-i.i - 1; few = omega arith; place = inl (omega arith) }
