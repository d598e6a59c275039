-- Right because two bytes are below 2 ^ 16. Assumes nothing.
use Rattle.std.proofs.Common.{arith}
use Rattle.rules.specs.Row as rules
use Rattle.rows.proofs.Bytes.{int-below}
use Rattle.configuration.proofs.size.Goals as goal

pub returns-clause-size : goal.returns-clause-size
unfolding rules.row_of
returns-clause-size c = c.integer.ensures

pub returns-clause-few : goal.returns-clause-few
returns-clause-few c =
    omega (arith, c.integer.ensures, int-below 2 5 c.args.b.now c.fits-b (omega arith))
