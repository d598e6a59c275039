-- Right because the two bytes of the size are all of it. Assumes nothing.
use Rattle.std.proofs.Common.{ap, ◌∙◌, arith}
use Rattle.std.proofs.Math.Seq.{take_all}
use Rattle.rules.specs.Bytes.{number}
use Rattle.rows.specs.Meaning.{row_of}
use Rattle.rows.proofs.Row.size.Goals as goal

pub returns : goal.returns
unfolding row_of
returns c = c.integer.ensures ∙ ap number (take_all 2 c.args.self.now.size (omega arith))
