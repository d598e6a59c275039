-- Right because the recursion over the bits is the machine's conjunction. Assumes nothing.
use mathlib.Core.Path.{sym}
use Rattle.numbers.specs.Whole.{whole_of}
use Rattle.numbers.proofs.Bits.{within-and}
use Rattle.numbers.proofs.Number.within.Goals as goal

pub returns : goal.returns
returns c =
    rw (c.from.ensures, c.from-2.ensures, c.from-3.ensures) (sym (within-and 128 (whole_of c.args.self) (whole_of c.args.mask) (rw c.from.ensures at c.from.type_inv)))
