-- Right because each slot is compared with the one in its place. Assumes nothing.
use Prim.Native.Nat.{ℕ}
use mathlib.Core.Path.{◌≡◌, refl, ap₂, ◌∙◌}
use mathlib.Core.List.{List}
use Rattle.std.specs.List.{list_all, zip}
use Rattle.std.specs.Iterator.Adapters.{zip_first, zip_second}
use Rattle.std.specs.Slice.Iter.{iter_rest}
use Rattle.std.proofs.Common.{rules, tests}
use Rattle.std.proofs.lemmas.Iterator.{YieldsList-from_slice, YieldsList-from_zip}
use Rattle.std.proofs.lemmas.Iterator.Search.{all_from_yields_List}
use Rattle.rules.specs.Key.{same_slot}
use Rattle.keys.proofs.Rest.{pairs-compared}
use Rattle.keys.proofs.same_slots.Goals as goal

pub returns : goal.returns
returns c =
    let one : iter_rest (zip_first c.zip.result) ≡ c.slots.result.now = cc in
    let two : iter_rest (zip_second c.zip.result) ≡ c.slots-2.result.now = cc in
    all_from_yields_List (λ (p : List ℕ × List ℕ). same_slot p.0 p.1) c.all.new.self _ c.all.result c.all.ensures.ran
    (YieldsList-from_zip (YieldsList-from_slice c.slots.result.now one) (YieldsList-from_slice c.slots-2.result.now two))
    (λ x b q k. search (rules, tests))
    ∙ ap₂ (λ (xs ys : List (List ℕ)). list_all (λ (p : List ℕ × List ℕ). same_slot p.0 p.1) (zip xs ys)) c.slots.ensures c.slots-2.ensures
    ∙ pairs-compared c.args.stored.now c.args.rest.now 4 0 c.told-stored c.told-rest refl
