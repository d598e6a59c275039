-- Right because each parameter is asked beside its width. Assumes nothing.
use Rattle.std.proofs.Common.{rules, tests, ◌∙◌, ℕ, List, arith}
use Rattle.std.proofs.lemmas.Iterator.{YieldsList-from_slice, YieldsList-from_zip}
use Rattle.std.proofs.lemmas.Iterator.Search.{all_from_yields_List}
use Rattle.rules.specs.Value.{fits}
use Rattle.checks.proofs.Walk.{pairs-alone}
use Rattle.checks.proofs.parameters_fit.Goals as goal

pub returns : goal.returns
returns c =
    let widths = c.args.widths.now in
    let values = c.args.parameters.now in
    all_from_yields_List (λ (x : ℕ × List ℕ). fits x.0 x.1) c.all.new.self _ c.all.result c.all.ensures.ran
    (YieldsList-from_zip (YieldsList-from_slice widths (cc)) (YieldsList-from_slice values (cc))) (λ x b q k. search (rules, tests))
    ∙ pairs-alone fits widths values (omega arith)
