-- Right because a count over 4 takes all of four. Assumes nothing.
use Rattle.std.proofs.Common.{ap, arith, map}
use Rattle.rows.specs.Meaning.{row_of, field_of}
use Rattle.rows.proofs.Held.{take_within}
use Rattle.rows.proofs.Row.fields.Goals as goal

pub returns-clause-fields : goal.returns-clause-fields
unfolding row_of
returns-clause-fields c =
    let r = c.args.self.now in
    ap (map field_of) (rw (c.min.ensures, c.from.ensures) (take_within r.field_count 4 r.fields (omega arith)))
