-- Right because the three tests are made in their order, of the key's own slots and priority. Assumes nothing.
use Rattle.std.proofs.Common.{refl, sym, ◌∙◌}
use Rattle.std.proofs.lemmas.Result.{err_from_is_err_and}
use Rattle.rows.specs.Meaning.{row_of}
use Rattle.checks.proofs.Lent.{unformed, unfitting, last, key-lent}
use Rattle.checks.proofs.key_reason.Goals as goal

pub returns-in_err-check : goal.returns-in_err-check
returns-in_err-check c k h =
    let p = err_from_is_err_and c.from_residual.result c.from_residual.ensures.1 in
    let e = c.in_err-check.ensures in
    rw (p.1, p.2, e.1) (unformed _ _ _ (sym c.slots_formed.ensures ∙ e.0) ∙ key-lent (row_of c.args.row.now) k h c.four-slots.ensures refl)

pub returns-in_err-check-2 : goal.returns-in_err-check-2
returns-in_err-check-2 c k h =
    let p = err_from_is_err_and c.from_residual-in_err-check-2.result c.from_residual-in_err-check-2.ensures.1 in
    let e = c.in_err-check-2.ensures in
    rw (p.1, p.2, e.1) (unfitting _ _ _ (sym c.slots_formed.ensures ∙ c.in_ok-check.ensures) (sym c.slots_fit.ensures ∙ e.0)
    ∙ key-lent (row_of c.args.row.now) k h c.four-slots.ensures refl)

pub returns : goal.returns
returns c k h =
    last _ _ _ c.check-3.result (sym c.slots_formed.ensures ∙ c.in_ok-check.ensures) (sym c.slots_fit.ensures ∙ c.in_ok-check-2.ensures)
    (rw c.key_rules.ensures at c.check-3.ensures) ∙ key-lent (row_of c.args.row.now) k h c.four-slots.ensures c.integer.ensures
