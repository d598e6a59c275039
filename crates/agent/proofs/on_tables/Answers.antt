-- Right because what the command leaves is the rules' own, and its tables are stored. Assumes nothing.
use Rattle.agent.proofs.on_tables.Goals as goal

pub carry_out-left-requires : goal.carry_out-left-requires
carry_out-left-requires c = c.requires

pub returns : goal.returns
returns c = c.carry_out-left.ensures
