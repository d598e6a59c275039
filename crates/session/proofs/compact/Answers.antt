-- Right because the bytes that are copied to the start are a piece of the input. Assumes nothing.
use Rattle.std.proofs.Common.{◌≡◌, ◌-◌, length, arith}
use Rattle.rules.specs.Bytes.{part}
use Rattle.buffers.specs.Splice.{splice}
use Rattle.buffers.proofs.Splice.{length-window}
use Rattle.session.proofs.compact.Goals as goal

pub returns-clause-bytes : goal.returns-clause-bytes
unfolding splice
returns-clause-bytes c =
    let a = c.args in
    let l : length (part a.at (a.filled - a.at) a.input.now) ≡ a.filled - a.at = length-window a.at (a.filled - a.at) a.input.now (omega arith) in
    rw l c.copy_within.ensures.after
