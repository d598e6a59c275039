-- Right because a number is below a power of two where it is at most all ones, and 128 bits hold every number. Assumes nothing.
use Prim.Native.Nat.{◌^◌}
use native.Mathlib.Omega.{arith}
use mathlib.Core.Path.{sym, ◌∙◌}
use borrow.Author.Tests.{le-leb, lt-ltb}
use Rattle.numbers.specs.Whole.{whole_of}
use Rattle.numbers.proofs.Halves.{whole_below}
use Rattle.numbers.proofs.Number.fits.Goals as goal

pub returns-then-width-ge128 : goal.returns-then-width-ge128
returns-then-width-ge128 c =
    let a = c.args in
    le-leb 128 a.width c.if-width-ge128.true ∙ sym (lt-ltb (whole_of a.self) (2 ^ a.width) (whole_below a.self a.width (omega arith) (omega arith) (omega arith)))
