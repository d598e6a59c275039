-- Right because 128 bits hold every number, so that a remainder by a power beyond them is the number. Assumes nothing.
use Prim.Native.Nat.{ℕ, ◌^◌, ◌%◌}
use native.Mathlib.Nat.{mod-eq_of_lt}
use native.Mathlib.Omega.{arith}
use mathlib.Core.Path.{◌≡◌, sym, ap, ◌∙◌}
use lib.Dec.{eqb}
use Rattle.numbers.specs.Whole.{whole_of}
use Rattle.numbers.proofs.Halves.{whole_below}
use Rattle.numbers.proofs.Order.{equal_whole}
use Rattle.numbers.proofs.Number.low_zero.Goals as goal

pub returns : goal.returns
returns c =
    let a = c.args in
    let h : whole_of a.self % 2 ^ a.k ≡ whole_of a.self =
    mod-eq_of_lt (whole_below a.self a.k (omega arith) (omega arith) (omega arith)) in
    c.eq.ensures ∙ equal_whole a.self (record { high = 0; low = 0 }) (omega arith) (omega arith) ∙ ap (λ (n : ℕ). eqb n 0) (sym h)
