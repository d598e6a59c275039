-- Right because each turn holds one row. Assumes nothing.
use Rattle.std.proofs.Common.{◌≡◌, length, map, take}
use Rattle.rows.specs.Meaning.{row_of, row_read}
use Rattle.rows.proofs.Rows.read.Given as goal

abbrev pub invariant-loop-i : goal.invariant-loop-i
invariant-loop-i l = (length l.read.rows ≡ 8) × (map row_of (take l.i l.read.rows) ≡ map row_read (take l.i l.rows))
