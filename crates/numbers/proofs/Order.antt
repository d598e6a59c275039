-- The derived comparisons of numbers are those of the numbers that they stand for. Assumes nothing.
use Prim.Native.Nat.{◌^◌, ◌<◌}
use native.Mathlib.Omega.{arith}
use mathlib.Core.Path.{◌≡◌}
use lib.Dec.{leb, ltb, eqb}
use Rattle.std.specs.Ordering.{partial_lt, partial_le}
use Rattle.std.proofs.lemmas.Bool.Decides.{nat_tests}
use Rattle.numbers.specs.declared.Number.{Number}
use Rattle.numbers.specs.contracts.NumberPartialEq.TheImpl as equality
use Rattle.numbers.specs.contracts.NumberPartialOrd.TheImpl as order
use Rattle.numbers.specs.Whole.{whole_of}

-- for low halves of 64 bits, as each `Number` of the code has
module _ (a b : Number) (p : a.low < 2 ^ 64) (q : b.low < 2 ^ 64) where
  pub equal_whole : equality.eq-value.it a b ≡ eqb (whole_of a) (whole_of b)
  equal_whole = grind (arith, nat_tests)

  pub below_whole : partial_lt order.partial_cmp-value.it a b ≡ ltb (whole_of a) (whole_of b)
  below_whole = grind (arith, nat_tests)

  pub upto_whole : partial_le order.partial_cmp-value.it a b ≡ leb (whole_of a) (whole_of b)
  upto_whole = grind (arith, nat_tests)
