-- Right because the first id is searched among the later ones, which decide the rest. Assumes nothing.
use Rattle.std.proofs.Common.{◌≡◌, ◌∷◌, eqb, false, if◌then◌else◌, length, sym, ◌∙◌, rules, tests}
use Rattle.std.proofs.lemmas.Iterator.{YieldsList-from_slice, YieldsList-from_map}
use Rattle.std.proofs.lemmas.Iterator.Search.{any_from_yields_List}
use Rattle.rules.specs.Bytes.{int, distinct}
use Rattle.configuration.specs.Passing.{ids}
use Rattle.configuration.proofs.OneRow.{ids-none, ids-asked}
use Rattle.configuration.proofs.ids_distinct.Goals as goal
use Rattle.configuration.proofs.ids_distinct.Goals.{After-any}

-- what the search came to
asked : (g : _) (c : After-any g)
    → distinct (ids c.loop-first.rest.now) ≡ (if c.any.result then false else distinct (ids c.in-Some.later.now))
asked g c =
    let is : c.loop-first.rest.now ≡ c.in-Some.first.now ∷ c.in-Some.later.now = search rules in
    let repeated =
    any_from_yields_List (eqb c.id-own.result) _ _ c.any.result c.any.ensures.ran
    (YieldsList-from_map _ (int 0 4) (YieldsList-from_slice c.in-Some.later.now cc) c.map.ensures.closure (λ x r q k. search rules))
    (λ x b q k. search (rules, tests)) in
    ids-asked c.in-Some.first.now c.in-Some.later.now is c.id-own.ensures repeated

pub returns-then-any : goal.returns-then-any
returns-then-any g c = sym (sym c.loop-first.invariant ∙ asked g (goal.at.returns-then-any g c).After-any ∙ (rw c.if-any.true))

pub loop-first-preserved : goal.loop-first-preserved
loop-first-preserved g c =
    sym (asked g (goal.at.loop-first-preserved g c).After-any ∙ (rw c.if-any.false)) ∙ c.loop-first.invariant

pub returns : goal.returns
returns g c =
    let none : length c.loop-first.rest.now ≡ 0 = search rules in
    sym (ids-none c.loop-first.rest.now none) ∙ c.loop-first.invariant
