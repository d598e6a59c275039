-- Right because each parameter is asked, and the rest at once. Assumes nothing.
use Rattle.std.proofs.Common.{◌≡◌, rules, tests, ◌∙◌, ℕ, List, arith, ap, length, length-drop, drop, ◌-◌, refl}
use Rattle.std.proofs.lemmas.Iterator.{YieldsList-from_slice, YieldsList-from_zip}
use Rattle.std.proofs.lemmas.Iterator.Search.{all_from_yields_List}
use Rattle.std.proofs.Math.Seq.{take_all}
use Rattle.std.specs.List.{flat_map}
use Rattle.rules.specs.Key.{pairwise}
use Rattle.rules.specs.Value.{is_value}
use Rattle.checks.proofs.Walk.{pairs-alone, asked}
use Rattle.checks.proofs.parameters_formed.Goals as goal

pub returns-then-all : goal.returns-then-all
returns-then-all c =
    let widths = c.args.widths.now in
    let values = c.args.parameters.now in
    let e : c.all.result ≡ pairwise (λ (width : ℕ). is_value) widths values =
    all_from_yields_List (λ (x : ℕ × List ℕ). is_value x.1) c.all.new.self _ c.all.result c.all.ensures.ran
    (YieldsList-from_zip (YieldsList-from_slice widths (cc)) (YieldsList-from_slice values (cc))) (λ x b q k. search (rules, tests))
    ∙ pairs-alone (λ (width : ℕ). is_value) widths values (omega arith) in
    let rest = take_all (4 - length widths) (drop (length widths) values) (omega (arith, length-drop (length widths) values)) in
    let flat = c.as_flattened.ensures.value ∙ ap (flat_map (λ (b : List ℕ). b)) rest in
    rw c.if-all.true at (asked (λ (width : ℕ). is_value) widths values e refl flat c.all_zero.ensures)

pub returns-else-all : goal.returns-else-all
returns-else-all c =
    let widths = c.args.widths.now in
    let values = c.args.parameters.now in
    let e : c.all.result ≡ pairwise (λ (width : ℕ). is_value) widths values =
    all_from_yields_List (λ (x : ℕ × List ℕ). is_value x.1) c.all.new.self _ c.all.result c.all.ensures.ran
    (YieldsList-from_zip (YieldsList-from_slice widths (cc)) (YieldsList-from_slice values (cc))) (λ x b q k. search (rules, tests))
    ∙ pairs-alone (λ (width : ℕ). is_value) widths values (omega arith) in
    c.if-all.false ∙ rw c.if-all.false at (asked (λ (width : ℕ). is_value) widths values e refl refl refl)
