-- Right because a search of the actions that are held is the rules' search. Assumes nothing.
use Rattle.std.proofs.Common.{rules, tests, ◌≡◌, sym, ◌∙◌, ap}
use Rattle.std.proofs.lemmas.Iterator.{YieldsList-from_slice}
use Rattle.std.proofs.lemmas.Iterator.Search.{find_from_yields_List}
use Rattle.std.specs.Prelude.{find, is_some}
use Rattle.std.specs.Option.{option_copied}
use Rattle.rules.specs.Entry.{has_action, widths_of}
use Rattle.rows.specs.Meaning.{row_of}
use Rattle.rows.proofs.Found.{some-copied}
use Rattle.checks.proofs.Walk.{is_of, action-known, action-widths, widths-behind}
use Rattle.checks.proofs.action_at.Goals as goal

pub returns-clause-known : goal.returns-clause-known
returns-clause-known c =
    let id = c.args.id in
    let actions = c.actions.result.now in
    let e : option_copied c.find.result ≡ find (is_of id) actions =
    find_from_yields_List (is_of id) c.find.new.self _ c.find.result c.find.ensures.ran (YieldsList-from_slice actions (cc))
    (λ x b q k. search (rules, tests)) in
    sym (some-copied c.find.result) ∙ ap is_some e ∙ action-known id actions ∙ ap (has_action id) c.actions.ensures.actions

pub returns-clause-widths : goal.returns-clause-widths
returns-clause-widths c =
    let id = c.args.id in
    let actions = c.actions.result.now in
    let e : option_copied c.find.result ≡ find (is_of id) actions =
    find_from_yields_List (is_of id) c.find.new.self _ c.find.result c.find.ensures.ran (YieldsList-from_slice actions (cc))
    (λ x b q k. search (rules, tests)) in
    widths-behind (widths_of id (row_of c.args.row.now).actions) c.find.result (rw (e, ← c.actions.ensures.actions) (action-widths id actions))
