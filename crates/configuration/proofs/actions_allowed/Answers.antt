-- Right because actions that are held are tested one by one, and then their ids. Assumes nothing.
use Rattle.std.proofs.Common.{◌≡◌, ◌&&◌, eqb, not, length, sym, ap, ◌∙◌, rules, tests}
use Rattle.std.proofs.lemmas.Iterator.{YieldsList-from_slice}
use Rattle.std.proofs.lemmas.Iterator.Search.{all_from_yields_List}
use Rattle.rules.specs.Bytes.{distinct, parts}
use Rattle.rules.specs.Row as rule
use Rattle.rules.proofs.Formed.{parts-count}
use Rattle.configuration.specs.Passing.{action_passes, ids, actions_pass}
use Rattle.configuration.proofs.Counted.{few, every-all, any-asked, was-some, was-none}
use Rattle.configuration.proofs.OneRow.{actions-asked}
use Rattle.configuration.proofs.actions_allowed.Goals as goal
use Rattle.configuration.proofs.actions_allowed.Goals.{After-all}

pub returns-in_default : goal.returns-in_default
returns-in_default c =
    let b = c.args.b.now in
    let n = rule.action_count b in
    sym (actions-asked b ∙ (rw (was-none (few 9 n (rule.action_bytes b)) (parts n 9 (rule.action_bytes b)) c.in_default.ensures)))

-- of actions that are held: each, their ids, and whether there are any
asked : (c : After-all) → actions_pass c.args.b.now
    ≡ (c.all.result && distinct (ids c.in-Some.actions.now) && not (eqb (length c.in-Some.actions.now) 0))
asked c =
    let b = c.args.b.now in
    let n = rule.action_count b in
    let acts = c.in-Some.actions.now in
    let some = was-some (few 9 n (rule.action_bytes b)) c.in-Some.ensures in
    let many = any-asked acts n (ap length some.1 ∙ parts-count n 9 (rule.action_bytes b)) in
    let each =
    all_from_yields_List action_passes _ _ c.all.result c.all.ensures.ran (YieldsList-from_slice acts cc) (λ x r q k. search (rules, tests)) in
    rw (actions-asked b, some.0, many, ← some.1, ← every-all action_passes acts, ← each)

pub returns-then-ids_distinct : goal.returns-then-ids_distinct
returns-then-ids_distinct c = rw (asked (goal.at.returns-then-ids_distinct c).After-all) (search (rules, tests))

pub returns-else-ids_distinct : goal.returns-else-ids_distinct
returns-else-ids_distinct c = rw (asked (goal.at.returns-else-ids_distinct c).After-all) (search (rules, tests))
