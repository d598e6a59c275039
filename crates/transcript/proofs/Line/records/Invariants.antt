-- The records so far are added.
use Rattle.rules.specs.Bytes.{parts}
use Rattle.transcript.specs.Line.{records_hex}
use Rattle.transcript.specs.Written.{Adds}
use Rattle.transcript.proofs.Line.records.Given as goal

abbrev pub invariant-loop-i : goal.invariant-loop-i
invariant-loop-i l = Adds l.initial.self (records_hex (parts l.i l.size l.records)) l.self
