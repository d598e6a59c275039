-- The worked cases of DELETEs hold because the definitions compute to them. Assumes nothing.
use mathlib.Core.List.{List, [], ◌∷◌}
use Rattle.rules.specs.DeleteCases.{stocked, key_alone, padded, other_types, key_checked, together, one_gone, Deletions}
use Rattle.rules.proofs.Computing.{computing}
use Rattle.rules.proofs.Runs.{Cases, InTurns, Singly, computed-in-turn, computed-singly, in-turn, each}

abbrev on_stocked : List Cases
on_stocked = key_alone ∷ padded ∷ together ∷ one_gone ∷ []

on-stocked : InTurns stocked on_stocked
unfolding computing
on-stocked = computed-in-turn stocked on_stocked

refused-there : Singly stocked (other_types ∷ key_checked ∷ [])
unfolding computing
refused-there = computed-singly stocked (other_types ∷ key_checked ∷ [])

pub deletions : Deletions
deletions = record {
  key-alone = in-turn stocked on_stocked on-stocked 0;
  padded = in-turn stocked on_stocked on-stocked 1;
  other-types = each stocked (other_types ∷ key_checked ∷ []) refused-there 0;
  key-checked = each stocked (other_types ∷ key_checked ∷ []) refused-there 1;
  together = in-turn stocked on_stocked on-stocked 2;
  one-gone = in-turn stocked on_stocked on-stocked 3;
}
