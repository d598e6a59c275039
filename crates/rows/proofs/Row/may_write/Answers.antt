-- Right because the test of the role, where it fails, leaves that of the owner. Assumes nothing.
use Rattle.std.proofs.Common.{arith}
use Rattle.rows.specs.Meaning.{row_of}
use Rattle.rows.proofs.Row.may_write.Goals as goal

pub returns-else-role-eq0 : goal.returns-else-role-eq0
unfolding row_of
returns-else-role-eq0 c = grind arith
