-- Right because the four bytes of the id are all of it. Assumes nothing.
use Rattle.std.proofs.Common.{ap, ◌∙◌, arith}
use Rattle.std.proofs.Math.Seq.{take_all}
use Rattle.rules.specs.Bytes.{number}
use Rattle.rows.specs.Meaning.{action_of}
use Rattle.rows.proofs.Action.id.Goals as goal

pub returns : goal.returns
unfolding action_of
returns c = c.integer.ensures ∙ ap number (take_all 4 c.args.self.now.id (omega arith))
