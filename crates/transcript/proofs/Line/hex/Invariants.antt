-- The bytes so far are added.
use Rattle.std.proofs.Common.{take}
use Rattle.transcript.specs.Line.{hex}
use Rattle.transcript.specs.Written.{Adds}
use Rattle.transcript.proofs.Line.hex.Given as goal

abbrev pub invariant-loop-b : goal.invariant-loop-b
invariant-loop-b l = Adds l.initial.self (hex (take l.b-index l.bytes)) l.self
