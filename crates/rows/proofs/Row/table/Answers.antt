-- Right because the four bytes of the id are all of it. Assumes nothing.
use Rattle.std.proofs.Common.{ap, ◌∙◌, arith}
use Rattle.std.proofs.Math.Seq.{take_all}
use Rattle.rules.specs.Bytes.{number}
use Rattle.rows.specs.Meaning.{row_of}
use Rattle.rows.proofs.Row.table.Goals as goal

pub returns : goal.returns
unfolding row_of
returns c = c.integer.ensures ∙ ap number (take_all 4 c.args.self.now.table (omega arith))
