-- 128 bits hold every number, so it is below each power of two from 2 ^ 128 on. Assumes nothing.
use Prim.Native.Nat.{ℕ, ◌^◌, ◌<◌, ◌≤◌}
use native.Mathlib.Nat.{lt_of_lt_of_le, pow-le-pow_right}
use lib.Arith.{digits_lt}
use lib.Dec.{lit<}
use Rattle.numbers.specs.declared.Number.{Number}
use Rattle.numbers.specs.Whole.{whole_of}

pub whole_below : (a : Number) (w : ℕ) → a.high < 2 ^ 64 → a.low < 2 ^ 64 → 128 ≤ w → whole_of a < 2 ^ w
whole_below a w p q h =
    lt_of_lt_of_le (digits_lt {m = 2 ^ 64} {c = 2 ^ 64} p q) (pow-le-pow_right {n = 2} (lit< tt) {i = 128} {j = w} h)
