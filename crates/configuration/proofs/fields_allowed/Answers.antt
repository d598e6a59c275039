-- Right because fields that are held are tested one by one. Assumes nothing.
use Rattle.std.proofs.Common.{◌≡◌, ◌&&◌, eqb, not, length, sym, ap, ◌∙◌, rules, tests}
use Rattle.std.proofs.lemmas.Iterator.{YieldsList-from_slice}
use Rattle.std.proofs.lemmas.Iterator.Search.{all_from_yields_List}
use Rattle.rules.specs.Bytes.{parts}
use Rattle.rules.specs.Row as rule
use Rattle.rules.proofs.Formed.{parts-count}
use Rattle.configuration.specs.Passing.{fields_pass}
use Rattle.configuration.proofs.Counted.{few, every-all, any-asked, was-some, was-none}
use Rattle.configuration.proofs.OneRow.{fields-asked, field_passes}
use Rattle.configuration.proofs.fields_allowed.Goals as goal
use Rattle.configuration.proofs.fields_allowed.Goals.{After-all}

pub returns-in_default : goal.returns-in_default
returns-in_default c =
    let b = c.args.b.now in
    let n = rule.field_count b in
    sym (fields-asked b ∙ (rw (was-none (few 2 n (rule.field_bytes b)) (parts n 2 (rule.field_bytes b)) c.in_default.ensures)))

-- of fields that are held: each, and whether there are any
asked : (c : After-all) → fields_pass c.args.b.now ≡ (c.all.result && not (eqb (length c.in-Some.fields.now) 0))
asked c =
    let b = c.args.b.now in
    let n = rule.field_count b in
    let fs = c.in-Some.fields.now in
    let some = was-some (few 2 n (rule.field_bytes b)) c.in-Some.ensures in
    let many = any-asked fs n (ap length some.1 ∙ parts-count n 2 (rule.field_bytes b)) in
    let each =
    all_from_yields_List field_passes _ _ c.all.result c.all.ensures.ran (YieldsList-from_slice fs cc) (λ x r q k. search (rules, tests)) in
    rw (fields-asked b, some.0, many, ← some.1, ← every-all field_passes fs, ← each)

pub returns-then-all : goal.returns-then-all
returns-then-all c = rw (asked (goal.at.returns-then-all c).After-all) (search (rules, tests))

pub returns-else-all : goal.returns-else-all
returns-else-all c = rw (asked (goal.at.returns-else-all c).After-all) (search (rules, tests))
