-- Right because the blank comes after the digits. Assumes nothing.
use Rattle.std.proofs.Common.{[], ◌∷◌}
use Rattle.transcript.proofs.Written.{adds-then, room-after}
use Rattle.transcript.proofs.Line.field.Goals as goal

pub push-requires : goal.push-requires
push-requires c = room-after c.number.ensures (32 ∷ []) c.requires

pub returns : goal.returns
returns c = adds-then c.number.ensures c.push.ensures
