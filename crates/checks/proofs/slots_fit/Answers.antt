-- Right because each slot is asked beside its field. Assumes nothing.
use Rattle.std.proofs.Common.{rules, tests, ◌∙◌, ℕ, List, arith, ap}
use Rattle.std.proofs.lemmas.Iterator.{YieldsList-from_slice, YieldsList-from_zip}
use Rattle.std.proofs.lemmas.Iterator.Search.{all_from_yields_List}
use Rattle.rules.specs.Key.{slot_fits, pairwise}
use Rattle.rows.specs.declared.Field.{Field}
use Rattle.rows.specs.Meaning.{field_of}
use Rattle.checks.proofs.Walk.{pairs}
use Rattle.checks.proofs.slots_fit.Goals as goal

pub returns : goal.returns
returns c =
    let fields = c.fields.result.now in
    let slots = c.args.slots.now in
    all_from_yields_List (λ (x : Field × List ℕ). slot_fits (field_of x.0) x.1) c.all.new.self _ c.all.result c.all.ensures.ran
    (YieldsList-from_zip (YieldsList-from_slice fields (cc)) (YieldsList-from_slice slots (cc))) (λ x b q k. search (rules, tests))
    ∙ pairs field_of slot_fits fields slots (omega arith) ∙ ap (λ fs. pairwise slot_fits fs slots) c.fields.ensures.fields
