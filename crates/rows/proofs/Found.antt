-- A search among the rows that are held is the rules' search. Assumes nothing.
use Rattle.std.proofs.Common.{◌≡◌, ℕ, Bool, true, false, ◌||◌, cond, List, [], ◌∷◌, map, eqb, refl, Option, Some, None}
use Rattle.std.specs.Prelude.{find, is_some}
use Rattle.std.specs.Option.{option_map_or, option_copied}
use Rattle.std.specs.Borrow.{Bor}
use Rattle.rules.specs.Row as rules
use Rattle.rows.specs.declared.Row.{Row}
use Rattle.rows.specs.Meaning.{row_of}

-- whether a row is the table's
abbrev pub is_of : ℕ → Row → Bool
is_of table row = eqb (row_of row).table table

pub known-found : (table : ℕ) (rows : List Row) → is_some (find (is_of table) rows) ≡ rules.known table (map row_of rows)
known-found table [] = refl
known-found table (row ∷ rows) = go (is_of table row) (known-found table rows)
  where
    go : (b : Bool) → is_some (find (is_of table) rows) ≡ rules.known table (map row_of rows)
        → is_some (cond b (Some row) (find (is_of table) rows)) ≡ (b || rules.known table (map row_of rows))
    go true h = refl
    go false h = h

-- the row, or none where it found none
abbrev found : Option Row → rules.Row
found o = option_map_or row_of o rules.no_row

pub found-row : (table : ℕ) (rows : List Row) → found (find (is_of table) rows) ≡ rules.row_for table (map row_of rows)
unfolding rules.row_for
found-row table [] = refl
found-row table (row ∷ rows) = go (is_of table row) (found-row table rows)
  where
    go : (b : Bool) → found (find (is_of table) rows) ≡ rules.row_for table (map row_of rows)
        → found (cond b (Some row) (find (is_of table) rows)) ≡ cond b (row_of row) (rules.row_for table (map row_of rows))
    go true h = refl
    go false h = h

pub some-copied : {A : Type 0} (o : Option (Bor A)) → is_some (option_copied o) ≡ is_some o
some-copied None = refl
some-copied (Some x) = refl
