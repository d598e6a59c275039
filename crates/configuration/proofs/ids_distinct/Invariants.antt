-- Right because each turn leaves out the first id, which is not repeated. Assumes nothing.
use Rattle.std.proofs.Common.{◌≡◌, length}
use Rattle.rules.specs.Bytes.{distinct}
use Rattle.configuration.specs.Passing.{ids}
use Rattle.configuration.proofs.ids_distinct.Given as goal

abbrev pub invariant-loop-first : goal.invariant-loop-first
invariant-loop-first g l = distinct (ids l.rest) ≡ distinct (ids l.fn.records)

abbrev pub decreases-loop-first : goal.decreases-loop-first
decreases-loop-first g l = length l.rest
