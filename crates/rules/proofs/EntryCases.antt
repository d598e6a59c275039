-- The worked cases of configurations, updates and entries hold because the definitions compute to them. Assumes nothing.
use mathlib.Core.Path.{refl}
use mathlib.Core.List.{List, [], ◌∷◌, ◌++◌, map}
use Prim.Native.Nat.{ℕ}
use Rattle.rules.specs.Key.{exact}
use Rattle.rules.specs.Sample.{open!, row, leading, configured, done, all}
use Rattle.rules.specs.EntryCases.{tables, stocked, four16, padded, zeros, shortened, keys_apart, owners, last_role, one, modified, full, batch}
use Rattle.rules.specs.EntryCases.{replaced, emptied, kept, Entries, allowed_at, refused_at, Configurations, is17, is18, is19, kinds}
use Rattle.rules.specs.EntryCases.{allowed_updates, refused17, refused18, refused19, exact_and_ternary, both_slots, last_optional, each_slot}
use Rattle.rules.specs.EntryCases.{by_widths, each_width_entries, narrow_and_wide, ends, none_refused, some_refused, Updates}
use Rattle.rules.proofs.Computing.{computing}
use Rattle.rules.proofs.Runs.{Cases, InTurns, Singly, computed-in-turn, computed-singly, in-turn, each}

-- ---- entries

abbrev exact16 : List (List ℕ)
exact16 = configured (row 1 0 4 exact 16 ∷ [])

on-exact : InTurns exact16 (padded ∷ zeros ∷ [])
unfolding computing
on-exact = computed-in-turn exact16 (padded ∷ zeros ∷ [])

on-four : InTurns (configured (four16 ∷ [])) (shortened ∷ keys_apart ∷ [])
unfolding computing
on-four = computed-in-turn (configured (four16 ∷ [])) (shortened ∷ keys_apart ∷ [])

abbrev three_more : List (List ℕ)
three_more = configured (row 1 7 4 exact 8 ∷ row 2 6 4 exact 8 ∷ []) ++ map open! (2 ∷ 3 ∷ 4 ∷ [])

on-last-role : InTurns three_more (last_role ∷ [])
unfolding computing
on-last-role = computed-in-turn three_more (last_role ∷ [])

on-empty : InTurns (configured tables) (batch ∷ [])
unfolding computing
on-empty = computed-in-turn (configured tables) (batch ∷ [])

abbrev on_stocked : List Cases
on_stocked = modified ∷ full ∷ replaced ∷ emptied ∷ kept ∷ []

on-stocked : InTurns stocked on_stocked
unfolding computing
on-stocked = computed-in-turn stocked on_stocked

read-stocked : Singly stocked (owners ∷ one ∷ [])
unfolding computing
read-stocked = computed-singly stocked (owners ∷ one ∷ [])

pub entries : Entries
unfolding computing
entries = record {
  padded = in-turn exact16 (padded ∷ zeros ∷ []) on-exact 0;
  zero = in-turn exact16 (padded ∷ zeros ∷ []) on-exact 1;
  shortened = in-turn (configured (four16 ∷ [])) (shortened ∷ keys_apart ∷ []) on-four 0;
  keys-apart = in-turn (configured (four16 ∷ [])) (shortened ∷ keys_apart ∷ []) on-four 1;
  owners = each stocked (owners ∷ one ∷ []) read-stocked 0;
  last-role = in-turn three_more (last_role ∷ []) on-last-role 0;
  one = each stocked (owners ∷ one ∷ []) read-stocked 1;
  modified = in-turn stocked on_stocked on-stocked 0;
  full = in-turn stocked on_stocked on-stocked 1;
  batch = in-turn (configured tables) (batch ∷ []) on-empty 0;
  no-updates = refl;
  count = refl;
  replaced = in-turn stocked on_stocked on-stocked 2;
  emptied = in-turn stocked on_stocked on-stocked 3;
  kept = in-turn stocked on_stocked on-stocked 4;
}

-- ---- configurations

abbrev rows_at : List Cases
rows_at = allowed_at 1 ∷ refused_at 0 ∷ refused_at 1 ∷ refused_at 7 ∷ []

with_rows : Singly leading rows_at
unfolding computing
with_rows = computed-singly leading rows_at

pub configurations : Configurations
unfolding computing
configurations = record {
  allowed = each leading rows_at with_rows 0;
  first-row = each leading rows_at with_rows 1;
  second-row = each leading rows_at with_rows 2;
  last_row = each leading rows_at with_rows 3;
  sizes = refl;
}

-- ---- updates

abbrev on_kinds : List Cases
on_kinds =
    none_refused 14 (all done allowed_updates)
    ∷ some_refused 31 (all is17 refused17)
    ∷ some_refused 8 (all is18 refused18)
    ∷ some_refused 16 (all is19 refused19)
    ∷ []

on-kinds : Singly kinds on_kinds
unfolding computing
on-kinds = computed-singly kinds on_kinds

on_both : Singly (configured (exact_and_ternary ∷ [])) (some_refused 6 both_slots ∷ [])
unfolding computing
on_both = computed-singly (configured (exact_and_ternary ∷ [])) (some_refused 6 both_slots ∷ [])

on-each : Singly (configured (four16 ∷ last_optional ∷ [])) (some_refused 6 each_slot ∷ [])
unfolding computing
on-each = computed-singly (configured (four16 ∷ last_optional ∷ [])) (some_refused 6 each_slot ∷ [])

on-widths : Singly (configured (by_widths ∷ [])) (some_refused 11 each_width_entries ∷ [])
unfolding computing
on-widths = computed-singly (configured (by_widths ∷ [])) (some_refused 11 each_width_entries ∷ [])

on-ends : Singly (configured narrow_and_wide) (some_refused 26 ends ∷ [])
unfolding computing
on-ends = computed-singly (configured narrow_and_wide) (some_refused 26 ends ∷ [])

pub updates : Updates
unfolding computing
updates = record {
  allowed = each kinds on_kinds on-kinds 0;
  seventeen = each kinds on_kinds on-kinds 1;
  eighteen = each kinds on_kinds on-kinds 2;
  nineteen = each kinds on_kinds on-kinds 3;
  both-slots = each (configured (exact_and_ternary ∷ [])) (some_refused 6 both_slots ∷ []) on_both 0;
  each-slot = each (configured (four16 ∷ last_optional ∷ [])) (some_refused 6 each_slot ∷ []) on-each 0;
  each_width = each (configured (by_widths ∷ [])) (some_refused 11 each_width_entries ∷ []) on-widths 0;
  narrow-and-wide = each (configured narrow_and_wide) (some_refused 26 ends ∷ []) on-ends 0;
  widest = refl;
}
