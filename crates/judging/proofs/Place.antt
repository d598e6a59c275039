-- Why an update is refused at its place, by whether its key was found: one law per way through the order. Assumes nothing.
use Prim.Native.Nat.{ℕ}
use mathlib.Core.Path.{◌≡◌, sym}
use mathlib.Core.Bool.{true, false}
use mathlib.Core.List.{List}
use Rattle.std.specs.Prelude.{Option, None, Some, is_some}
use lib.Dec.{leb}
use lib.ListN.{length}
use Rattle.rules.specs.Reason.{first}
use Rattle.rules.specs.Row.{Row}
use Rattle.rules.specs.Key.{short_key}
use Rattle.rules.specs.Update.{Tables, is_insert, stored, held}
use Rattle.store.specs.Store.{place}
use Rattle.store.proofs.KeyPlace.{place-stored}
use Rattle.judging.specs.Verdict.{places_in}

-- an update with entry e, of a table that the row describes, where the entries es are stored
module _ (row : Row) (e : List ℕ) (es : List (List ℕ)) where
  abbrev t : Tables
  t = record { entries = es }

  -- its key is stored where it was found
  found-stored : (o : Option ℕ) → o ≡ place (short_key e) es → stored (short_key e) t ≡ is_some o
  found-stored None p = (place-stored (short_key e) es).0 (sym p)
  found-stored (Some i) p = ((place-stored (short_key e) es).1 i (sym p)).1

  module _ (o : Option ℕ) (p : o ≡ place (short_key e) es) where
    -- ---- INSERT

    pub insert-present : is_some o ≡ true → first (places_in row 1 e t) ≡ 20
    unfolding first
    insert-present s = rw (found-stored o p, s)

    pub insert-table-full : is_some o ≡ false → leb row.size (held row.table t) ≡ true → first (places_in row 1 e t) ≡ 22
    unfolding first
    insert-table-full s h = rw (found-stored o p, s, h)

    pub insert-no-room : is_some o ≡ false → leb row.size (held row.table t) ≡ false → leb 256 (length es) ≡ true
        → first (places_in row 1 e t) ≡ 2
    unfolding first
    insert-no-room s h f = rw (found-stored o p, s, h, f)

    pub insert-absent : is_some o ≡ false → leb row.size (held row.table t) ≡ false → leb 256 (length es) ≡ false
        → first (places_in row 1 e t) ≡ 0
    unfolding first
    insert-absent s h f = rw (found-stored o p, s, h, f)

    -- ---- MODIFY and DELETE

    pub change-present : (type : ℕ) → is_insert type ≡ false → is_some o ≡ true → first (places_in row type e t) ≡ 0
    unfolding first
    change-present type n s = rw (n, found-stored o p, s)

    pub change-absent : (type : ℕ) → is_insert type ≡ false → is_some o ≡ false → first (places_in row type e t) ≡ 21
    unfolding first
    change-absent type n s = rw (n, found-stored o p, s)
