-- Right because each turn holds one row. Assumes nothing.
use Rattle.std.proofs.Common.{◌≡◌, ℕ, ◌+◌, ◌<◌, List, [], length, take, get_or, set, map, arith, length-set}
use Rattle.std.proofs.lemmas.List.{map-append, take_more, take_more_set}
use Rattle.rows.specs.declared.Row.{Row}
use Rattle.rows.specs.Meaning.{row_of, row_read}
use Rattle.rows.proofs.Rows.read.Goals as goal

held_more : (rows : List Row) (bs : List (List ℕ)) (i : ℕ) (row : Row) → map row_of (take i rows) ≡ map row_read (take i bs)
    → i < length rows → i < length bs → row_of row ≡ row_read (get_or bs i [])
    → map row_of (take (i + 1) (set rows i row)) ≡ map row_read (take (i + 1) bs)
held_more rows bs i row e h k r = rw (take_more_set rows i row h, take_more bs i [] k, map-append row_of, map-append row_read, e, ← r)

pub loop-i-preserved : goal.loop-i-preserved
loop-i-preserved c =
    let l = c.loop-i in
    let more = held_more l.read.rows c.args.rows.now l.i c.read.result l.invariant.1 (omega arith) (omega arith) c.read.ensures in
    (omega (arith, length-set l.read.rows l.i c.read.result), more)
