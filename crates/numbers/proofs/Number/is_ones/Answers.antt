-- Right because the number after all ones is the power of two, which beyond 128 bits no number reaches. Assumes nothing.
use Prim.Native.Nat.{ℕ, ◌+◌, ◌^◌, ◌<◌}
use native.Mathlib.Omega.{arith}
use mathlib.Core.Path.{◌≡◌, sym, ◌∙◌}
use lib.Dec.{lit≤}
use lib.Pow.{pow-lt}
use borrow.Author.Tests.{ne_eqb}
use Rattle.numbers.specs.Whole.{whole_of}
use Rattle.numbers.proofs.Halves.{whole_below}
use Rattle.numbers.proofs.Number.is_ones.Goals as goal

pub returns-else-width-eq128 : goal.returns-else-width-eq128
returns-else-width-eq128 c =
    let a = c.args in
    let w : 128 < a.width = omega arith in
    let p : 2 ^ 128 < 2 ^ a.width = pow-lt w in
    let h : whole_of a.self < 2 ^ 128 = whole_below a.self 128 (omega arith) (omega arith) (lit≤ tt) in
    ne_eqb a.width 128 c.if-width-eq128.false ∙ sym (ne_eqb (whole_of a.self + 1) (2 ^ a.width) (past (whole_of a.self) (2 ^ 128) (2 ^ a.width) h p))
  where
    past : (x p q : ℕ) → x < p → p < q → x + 1 ≡ q → ⊥
    past x p q g k e = omega arith
