-- Right because each slot is asked beside its field, and the rest at once. Assumes nothing.
use Rattle.std.proofs.Common.{◌≡◌, rules, tests, ◌∙◌, ℕ, List, arith, sym, ap, length, length-drop, drop, ◌-◌, refl}
use Rattle.std.proofs.lemmas.List.{length-map}
use Rattle.std.proofs.lemmas.Iterator.{YieldsList-from_slice, YieldsList-from_zip}
use Rattle.std.proofs.lemmas.Iterator.Search.{all_from_yields_List}
use Rattle.std.proofs.Math.Seq.{take_all}
use Rattle.std.specs.List.{flat_map}
use Rattle.rules.specs.Key.{slot_formed, pairwise}
use Rattle.rows.specs.declared.Field.{Field}
use Rattle.rows.specs.Meaning.{field_of, row_of}
use Rattle.checks.proofs.Walk.{pairs, asked}
use Rattle.checks.proofs.slots_formed.Goals as goal

pub returns-then-all : goal.returns-then-all
returns-then-all c =
    let fields = c.fields-fields.result.now in
    let slots = c.args.slots.now in
    let own = (row_of c.args.row.now).fields in
    let e : c.all.result ≡ pairwise slot_formed own slots =
    all_from_yields_List (λ (x : Field × List ℕ). slot_formed (field_of x.0) x.1) c.all.new.self _ c.all.result c.all.ensures.ran
    (YieldsList-from_zip (YieldsList-from_slice fields (cc)) (YieldsList-from_slice slots (cc))) (λ x b q k. search (rules, tests))
    ∙ pairs field_of slot_formed fields slots (omega arith) ∙ ap (λ fs. pairwise slot_formed fs slots) c.fields-fields.ensures.fields in
    let n : length fields ≡ length own = sym (length-map fields field_of) ∙ ap length c.fields-fields.ensures.fields in
    let rest = take_all (4 - length fields) (drop (length fields) slots) (omega (arith, length-drop (length fields) slots)) in
    let flat = c.as_flattened.ensures.value ∙ ap (flat_map (λ (b : List ℕ). b)) rest in
    rw c.if-all.true at (asked slot_formed own slots e n flat c.all_zero.ensures)

pub returns-else-all : goal.returns-else-all
returns-else-all c =
    let fields = c.fields-fields.result.now in
    let slots = c.args.slots.now in
    let own = (row_of c.args.row.now).fields in
    let e : c.all.result ≡ pairwise slot_formed own slots =
    all_from_yields_List (λ (x : Field × List ℕ). slot_formed (field_of x.0) x.1) c.all.new.self _ c.all.result c.all.ensures.ran
    (YieldsList-from_zip (YieldsList-from_slice fields (cc)) (YieldsList-from_slice slots (cc))) (λ x b q k. search (rules, tests))
    ∙ pairs field_of slot_formed fields slots (omega arith) ∙ ap (λ fs. pairwise slot_formed fs slots) c.fields-fields.ensures.fields in
    let n : length fields ≡ length own = sym (length-map fields field_of) ∙ ap length c.fields-fields.ensures.fields in
    c.if-all.false ∙ rw c.if-all.false at (asked slot_formed own slots e n refl refl)
