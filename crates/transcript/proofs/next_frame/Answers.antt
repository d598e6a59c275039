-- Right because a frame is found where its length and its bytes are in the input. Assumes nothing.
use Rattle.std.proofs.Common.{◌∙◌}
use Rattle.transcript.proofs.Input.{no_length, read_two, frame_read}
use Rattle.transcript.proofs.next_frame.Goals as goal

pub returns-in_default : goal.returns-in_default
returns-in_default c = no_length c.args.input.now c.in_default.len_below

pub returns : goal.returns
returns c =
    let input = c.args.input.now in
    let n = read_two 0 c.from-length.result input c.in-len2-up.len_at_least (c.from-length.ensures ∙ c.from_be_bytes.ensures) in
    frame_read input c.from-length.result c.get.result c.in-len2-up.len_at_least n c.get.ensures.lookup
