-- Right because 144 bytes are 18 words. Assumes nothing.
use Prim.Native.Nat.{ℕ}
use mathlib.Core.Path.{◌≡◌, refl, sym, ap, ◌∙◌}
use mathlib.Core.List.{List}
use Rattle.std.specs.Prelude.{is_none, option_map}
use Rattle.std.specs.List.{find, range_with_len}
use Rattle.std.proofs.Common.{rules, tests}
use Rattle.std.proofs.lemmas.Iterator.{YieldsList-from_range}
use Rattle.std.proofs.lemmas.Iterator.Search.{find_from_yields_List}
use Rattle.keys.proofs.Rest.{Differs, words-compared, none-mapped}
use Rattle.keys.proofs.differing_word.Goals as goal

pub returns-clause-same : goal.returns-clause-same
returns-clause-same c =
    let x : List ℕ = c.args.stored.now in
    let r : List ℕ = c.args.rest.now in
    let said : option_map (λ (k : ℕ). k) c.find.result ≡ find (Differs x r) (range_with_len 0 18) =
    find_from_yields_List (Differs x r) c.find.new.self _ c.find.result c.find.ensures.ran (YieldsList-from_range 0 18 18 refl refl)
    (λ k b q h. search (rules, tests)) in
    sym (none-mapped c.find.result) ∙ ap is_none said ∙ words-compared x r 18 0 c.told-stored c.told-rest
