-- Right because the bytes of an action are held one by one. Assumes nothing.
use Rattle.std.proofs.Common.{arith}
use Rattle.rows.specs.Meaning.{action_of, action_read}
use Rattle.rows.proofs.Held.{part-four}
use Rattle.rows.proofs.Action.read.Goals as goal

pub returns : goal.returns
unfolding action_of action_read
returns c = let b = c.args.b.now in rw (part-four 0 b (omega arith), part-four 5 b (omega arith))
