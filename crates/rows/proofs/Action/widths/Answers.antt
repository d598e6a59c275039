-- Right because a count over 4 takes all of four. Assumes nothing.
use Rattle.std.proofs.Common.{arith}
use Rattle.rows.specs.Meaning.{action_of}
use Rattle.rows.proofs.Held.{take_within}
use Rattle.rows.proofs.Action.widths.Goals as goal

pub returns-clause-widths : goal.returns-clause-widths
unfolding action_of
returns-clause-widths c = let a = c.args.self.now in rw (c.min.ensures, c.from.ensures) (take_within a.count 4 a.widths (omega arith))
