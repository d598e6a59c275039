-- Right because the event's outcome is the rules' own, its answer is written, and its streams are stored. Assumes nothing.
use Rattle.frames.specs.Meaning.{event_read}
use Rattle.agent.proofs.Ways.{event-handled}
use Rattle.agent.proofs.on_streams.Goals as goal

pub respond-requires : goal.respond-requires
respond-requires c = c.requires

pub returns : goal.returns
returns c =
    let r = c.respond in
    let a = c.args in
    λ store. event-handled a.agent.now store a.answer.now r.new.answer (event_read a.event) c.carry_out-left.result c.carry_out-left.ensures
    (rw c.number.ensures at r.ensures)
