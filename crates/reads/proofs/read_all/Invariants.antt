-- Right because the rows are walked in order, and the entries of each are written behind those before. Assumes nothing.
use mathlib.Core.List.{map}
use Rattle.rules.specs.Call.{gathered}
use Rattle.rows.specs.Meaning.{row_of}
use Rattle.reads.proofs.Records.{ReadSoFar, unread}
use Rattle.reads.proofs.read_all.Given as goal

abbrev pub invariant-loop-row : goal.invariant-loop-row
invariant-loop-row l =
    ReadSoFar (gathered l.role l.table (map row_of l.row-items) (record { entries = l.entries }))
    (unread l.role l.table l.row-items l.entries l.row-index) l.initial.answer l.answer l.n
