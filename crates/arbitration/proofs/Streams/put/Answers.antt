-- Right because what is stored means the binding, and past the last nothing is stored. Assumes nothing.
use Rattle.election.specs.Meaning.{binding_of}
use Rattle.arbitration.proofs.Places.{stream_put}
use Rattle.arbitration.proofs.Streams.put.Goals as goal

pub returns-then-stream-lt32 : goal.returns-then-stream-lt32
returns-then-stream-lt32 c =
    rw c.from-then-stream-lt32.ensures
    (stream_put c.args.self.now c.args.stream (binding_of c.args.binding) c.from.result c.from.ensures)
