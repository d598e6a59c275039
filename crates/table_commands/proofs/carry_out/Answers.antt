-- Right because no list of calls leaves more than 256 entries, and each command is carried out by its own function. Assumes nothing.
use native.Mathlib.Omega.{arith}
use Rattle.memory.proofs.Handled.{few}
use Rattle.table_commands.proofs.carry_out.Goals as goal

pub returns-then-tables-gt256 : goal.returns-then-tables-gt256
returns-then-tables-gt256 c t k =
    let a = c.args in
    absurd (omega (arith, few a.agent.now a.store.now t k, c.if-tables-gt256.true))
