-- Right because widths that are held are tested one by one, and the top byte of four is the first. Assumes nothing.
use Rattle.std.proofs.Common.{◌≡◌, ◌&&◌, eqb, arith, sym, ◌∙◌, rules, tests}
use Rattle.std.proofs.lemmas.Iterator.{YieldsList-from_slice}
use Rattle.std.proofs.lemmas.Iterator.Search.{all_from_yields_List}
use Rattle.rules.specs.Bytes.{byte, parts}
use Rattle.rules.specs.Row as rule
use Rattle.configuration.specs.Passing.{action_passes}
use Rattle.configuration.proofs.Counted.{few, every-all, was-some, was-none}
use Rattle.configuration.proofs.OneRow.{action-asked, width_passes}
use Rattle.configuration.proofs.action_allowed.Goals as goal
use Rattle.configuration.proofs.action_allowed.Goals.{After-all}

pub returns-in_default : goal.returns-in_default
returns-in_default c =
    let a = c.args.a.now in
    let n = rule.parameter_count a in
    let e = action-asked a (omega arith) (record { at = c.fits-a }) in
    sym (e ∙ (rw (was-none (few 1 n (rule.width_bytes a)) (parts n 1 (rule.width_bytes a)) c.in_default.ensures)))

-- of widths that are held: each, and the id's top byte
asked : (c : After-all) → action_passes c.args.a.now ≡ (c.all.result && eqb (byte 0 c.args.a.now) 1)
asked c =
    let a = c.args.a.now in
    let ws = c.in-Some.widths.now in
    let e = action-asked a (omega arith) (record { at = c.fits-a }) in
    let some = was-some (few 1 (rule.parameter_count a) (rule.width_bytes a)) c.in-Some.ensures in
    let each =
    all_from_yields_List width_passes _ _ c.all.result c.all.ensures.ran (YieldsList-from_slice ws cc) (λ x r q k. search (rules, tests)) in
    rw (e, some.0, ← some.1, ← every-all width_passes ws, ← each)

pub returns-then-all : goal.returns-then-all
returns-then-all c = rw (asked (goal.at.returns-then-all c).After-all) (search (rules, tests))

pub returns-else-all : goal.returns-else-all
returns-else-all c = rw (asked (goal.at.returns-else-all c).After-all) (search (rules, tests))
