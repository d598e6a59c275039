-- Right because a count over 4 takes all of four. Assumes nothing.
use Rattle.std.proofs.Common.{ap, arith, map}
use Rattle.rows.specs.Meaning.{row_of, action_of}
use Rattle.rows.proofs.Held.{take_within}
use Rattle.rows.proofs.Row.actions.Goals as goal

pub returns-clause-actions : goal.returns-clause-actions
unfolding row_of
returns-clause-actions c =
    let r = c.args.self.now in
    ap (map action_of) (rw (c.min.ensures, c.from.ensures) (take_within r.action_count 4 r.actions (omega arith)))
