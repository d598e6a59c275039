-- Right because the tests are made in their order, of the key and of the action found, which is looked up once. Assumes nothing.
use Rattle.std.proofs.Common.{◌≡◌, Bool, false, ◌&&◌, refl, sym, ◌∙◌}
use Rattle.std.proofs.lemmas.Result.{err_from_is_err_and}
use mathlib.Core.Bool.{and-false}
use Rattle.rules.specs.declared.Reason.TheVariants.{BadForm}
use Rattle.rules.specs.Entry.{action_in, has_action}
use Rattle.rules.proofs.Tests.{both_true}
use Rattle.rows.specs.Meaning.{row_of}
use Rattle.checks.proofs.Lent.{unformed, unfitting, last, entry-unknown, action_found, entry-lent}
use Rattle.checks.proofs.whole_reason.Goals as goal

-- where the second of two tests fails, both do
second : (a : Bool) {b : Bool} → b ≡ false → (a && b) ≡ false
second a e = rw e (and-false a)

pub returns-in_err-action : goal.returns-in_err-action
returns-in_err-action c =
    let row = row_of c.args.row.now in
    let e = c.args.entry.now in
    let p = err_from_is_err_and c.from_residual.result c.from_residual.ensures.1 in
    let o = c.in_err-action.ensures in
    let v = rw o.ok_part at o.value in
    let f : c.in_err-action.field-0.0 ≡ BadForm = cc in
    let k = rw c.integer.ensures at c.action_at.ensures.known in
    let n : has_action (action_in e) row.actions ≡ false = sym k ∙ sym o.variant in
    rw (p.1, p.2, f) (unformed _ _ _ (entry-unknown row e n))

pub returns-in_err-check : goal.returns-in_err-check
returns-in_err-check c =
    let row = row_of c.args.row.now in
    let e = c.args.entry.now in
    let p = err_from_is_err_and c.from_residual-in_err-check.result c.from_residual-in_err-check.ensures.1 in
    let r = c.in_err-check.ensures in
    let a = c.action_at.ensures in
    let f = action_found row e _ _ _ a.known a.widths c.integer.ensures c.in_ok-action.ensures.ok_part c.widths-widths.ensures.widths in
    rw (p.1, p.2, r.1) (unformed _ _ _ (rw (sym c.slots_formed.ensures ∙ r.0))
    ∙ entry-lent row e f.0 f.1 c.four-slots.ensures c.four-parameters.ensures refl)

pub returns-in_err-check-2 : goal.returns-in_err-check-2
returns-in_err-check-2 c =
    let row = row_of c.args.row.now in
    let e = c.args.entry.now in
    let p = err_from_is_err_and c.from_residual-in_err-check-2.result c.from_residual-in_err-check-2.ensures.1 in
    let r = c.in_err-check-2.ensures in
    let a = c.action_at.ensures in
    let f = action_found row e _ _ _ a.known a.widths c.integer.ensures c.in_ok-action.ensures.ok_part c.widths-widths.ensures.widths in
    rw (p.1, p.2, r.1) (unformed _ _ _ (second _ (sym c.parameters_formed.ensures ∙ r.0))
    ∙ entry-lent row e f.0 f.1 c.four-slots.ensures c.four-parameters.ensures refl)

pub returns-in_err-check-3 : goal.returns-in_err-check-3
returns-in_err-check-3 c =
    let row = row_of c.args.row.now in
    let e = c.args.entry.now in
    let p = err_from_is_err_and c.from_residual-in_err-check-3.result c.from_residual-in_err-check-3.ensures.1 in
    let r = c.in_err-check-3.ensures in
    let a = c.action_at.ensures in
    let f = action_found row e _ _ _ a.known a.widths c.integer.ensures c.in_ok-action.ensures.ok_part c.widths-widths.ensures.widths in
    rw (p.1, p.2, r.1) (unfitting _ _ _
    (both_true (sym c.slots_formed.ensures ∙ c.in_ok-check.ensures) (sym c.parameters_formed.ensures ∙ c.in_ok-check-2.ensures))
    (rw (sym c.slots_fit.ensures ∙ r.0))
    ∙ entry-lent row e f.0 f.1 c.four-slots.ensures c.four-parameters.ensures refl)

pub returns-in_err-check-4 : goal.returns-in_err-check-4
returns-in_err-check-4 c =
    let row = row_of c.args.row.now in
    let e = c.args.entry.now in
    let p = err_from_is_err_and c.from_residual-in_err-check-4.result c.from_residual-in_err-check-4.ensures.1 in
    let r = c.in_err-check-4.ensures in
    let a = c.action_at.ensures in
    let f = action_found row e _ _ _ a.known a.widths c.integer.ensures c.in_ok-action.ensures.ok_part c.widths-widths.ensures.widths in
    rw (p.1, p.2, r.1) (unfitting _ _ _
    (both_true (sym c.slots_formed.ensures ∙ c.in_ok-check.ensures) (sym c.parameters_formed.ensures ∙ c.in_ok-check-2.ensures))
    (second _ (sym c.parameters_fit.ensures ∙ r.0))
    ∙ entry-lent row e f.0 f.1 c.four-slots.ensures c.four-parameters.ensures refl)

pub returns : goal.returns
returns c =
    let row = row_of c.args.row.now in
    let e = c.args.entry.now in
    let a = c.action_at.ensures in
    let f = action_found row e _ _ _ a.known a.widths c.integer.ensures c.in_ok-action.ensures.ok_part c.widths-widths.ensures.widths in
    last _ _ _ c.check-5.result
    (both_true (sym c.slots_formed.ensures ∙ c.in_ok-check.ensures) (sym c.parameters_formed.ensures ∙ c.in_ok-check-2.ensures))
    (both_true (sym c.slots_fit.ensures ∙ c.in_ok-check-3.ensures) (sym c.parameters_fit.ensures ∙ c.in_ok-check-4.ensures))
    (rw c.key_rules.ensures at c.check-5.ensures) ∙ entry-lent row e f.0 f.1 c.four-slots.ensures c.four-parameters.ensures c.integer-2.ensures
