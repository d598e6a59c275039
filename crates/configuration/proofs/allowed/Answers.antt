-- Right because each row by itself, the tables and the sizes are all that 14 asks. Assumes nothing.
use Rattle.std.proofs.Common.{◌≡◌, ◌&&◌, leb, map, refl, sym, ◌∙◌, rules, tests}
use Rattle.std.proofs.lemmas.Iterator.{YieldsList-from_slice, YieldsList-from_map}
use Rattle.std.proofs.lemmas.Iterator.Search.{all_from_yields_List}
use Rattle.std.proofs.lemmas.Iterator.Consumers.{sum_from_yields_List}
use Rattle.std.proofs.lemmas.List.Recursion.{is_sum_by}
use Rattle.rules.specs.Bytes.{distinct, sum}
use Rattle.rules.specs.Row as rule
use Rattle.configuration.specs.Passing.{ids, rows_pass, table_sizes}
use Rattle.configuration.proofs.Counted.{every-all}
use Rattle.configuration.proofs.Configuration.{configuration-asked, alone, size_of}
use Rattle.configuration.proofs.allowed.Goals as goal
use Rattle.configuration.proofs.allowed.Goals.{After-all}

-- what was asked of each row
asked : (c : After-all) → rule.configuration_allowed c.args.rows.now
    ≡ (c.all.result && distinct (ids c.args.rows.now) && leb (sum (map size_of c.args.rows.now)) 256)
unfolding rows_pass table_sizes
asked c =
    let rows = c.args.rows.now in
    let each = all_from_yields_List alone _ _ c.all.result c.all.ensures.ran (YieldsList-from_slice rows cc) (λ x r q k. search (rules, tests)) in
    rw (configuration-asked rows, ← every-all alone rows, ← each)

pub returns-then-ids_distinct : goal.returns-then-ids_distinct
returns-then-ids_distinct c =
    let rows = c.args.rows.now in
    let total : c.sum.result ≡ sum (map size_of rows) =
    sum_from_yields_List _ c.sum.result c.sum.ensures.ran
    (YieldsList-from_map _ size_of (YieldsList-from_slice rows cc) c.map.ensures.closure (λ x r q k. search rules))
    ∙ sym (is_sum_by sum (λ n. n) refl (λ _ _. refl) (map size_of rows)) in
    rw (asked (goal.at.returns-then-ids_distinct c).After-all, ← total) (search (rules, tests))

pub returns-else-ids_distinct : goal.returns-else-ids_distinct
returns-else-ids_distinct c = rw (asked (goal.at.returns-else-ids_distinct c).After-all) (search (rules, tests))
