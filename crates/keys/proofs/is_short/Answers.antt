-- Right because a key is in shortest form where each of its slots is: it is compared with itself. Assumes nothing.
use mathlib.Core.Path.{ap, ◌∙◌}
use mathlib.Core.List.{List}
use Prim.Native.Nat.{ℕ}
use Rattle.std.specs.List.{list_all}
use Rattle.std.proofs.Common.{rules, tests}
use Rattle.std.proofs.lemmas.Iterator.{YieldsList-from_slice}
use Rattle.std.proofs.lemmas.Iterator.Search.{all_from_yields_List}
use Rattle.rules.specs.Key.{same_slot}
use Rattle.keys.proofs.Rest.{slots-short}
use Rattle.keys.proofs.is_short.Goals as goal

pub returns : goal.returns
returns c =
    all_from_yields_List (λ (s : List ℕ). same_slot s s) _ _ _ c.all.ensures.ran (YieldsList-from_slice c.slots.result.now cc)
    (λ x b q k. search (rules, tests))
    ∙ ap (list_all (λ (s : List ℕ). same_slot s s)) c.slots.ensures ∙ slots-short c.args.rest.now c.told-rest
