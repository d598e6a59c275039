-- Right because a search of the rows that are held is the rules' search. Assumes nothing.
use Rattle.std.proofs.Common.{rules, tests, ◌≡◌, sym, ◌∙◌, ap, take}
use Rattle.std.proofs.lemmas.Iterator.{YieldsList-from_slice}
use Rattle.std.proofs.lemmas.Iterator.Search.{find_from_yields_List}
use Rattle.std.specs.Prelude.{find, is_some}
use Rattle.std.specs.Option.{option_copied, option_map_or}
use Rattle.rules.specs.Row.{no_row}
use Rattle.rows.specs.Meaning.{row_of}
use Rattle.rows.proofs.Found.{is_of, known-found, found-row, some-copied}
use Rattle.rows.proofs.Rows.find.Goals as goal

pub returns-clause-known : goal.returns-clause-known
returns-clause-known c =
    let a = c.args in
    let rows = take a.self.now.count a.self.now.rows in
    let e : option_copied c.find.result ≡ find (is_of a.table) rows =
    find_from_yields_List (is_of a.table) _ _ c.find.result c.find.ensures.ran (YieldsList-from_slice rows (cc)) (λ x b q k. search (rules, tests)) in
    sym (some-copied c.find.result) ∙ ap is_some e ∙ known-found a.table rows

pub returns-clause-row : goal.returns-clause-row
returns-clause-row c =
    let a = c.args in
    let rows = take a.self.now.count a.self.now.rows in
    let e : option_copied c.find.result ≡ find (is_of a.table) rows =
    find_from_yields_List (is_of a.table) _ _ c.find.result c.find.ensures.ran (YieldsList-from_slice rows (cc)) (λ x b q k. search (rules, tests)) in
    ap (λ o. option_map_or row_of o no_row) e ∙ found-row a.table rows
