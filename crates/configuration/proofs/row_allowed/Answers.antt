-- Right because the order of the tests changes nothing, and the top byte of four is the first. Assumes nothing.
use Rattle.std.proofs.Common.{arith, rules, tests}
use Rattle.configuration.proofs.OneRow.{row-asked}
use Rattle.configuration.proofs.row_allowed.Goals as goal

pub returns-then-fields_allowed : goal.returns-then-fields_allowed
returns-then-fields_allowed c =
    let b = c.args.b.now in
    let e = row-asked b (omega arith) (record { at = c.fits-b }) in
    rw e (search (rules, tests))

pub returns-else-fields_allowed : goal.returns-else-fields_allowed
returns-else-fields_allowed c =
    let b = c.args.b.now in
    let e = row-asked b (omega arith) (record { at = c.fits-b }) in
    rw e (search (rules, tests))
