-- Right because the library's 16 bytes of a number are those of the rules. Assumes nothing.
use mathlib.Core.Path.{ap, ◌∙◌}
use Rattle.rules.specs.Bytes.{bytes_of}
use Rattle.buffers.specs.Splice.{splice}
use Rattle.numbers.proofs.Bytes.{high-first}
use Rattle.numbers.proofs.Number.write.Goals as goal

pub returns : goal.returns
returns c =
    c.copy.ensures ∙ ap (splice c.args.out.now 0) (c.to_be_bytes.ensures ∙ high-first 16 _ ∙ ap (bytes_of 16) c.from.ensures)
