-- The order of an update's reasons is that of its type, its table, its entry and its place, one after the other. Assumes nothing.
use Prim.Native.Nat.{ℕ}
use mathlib.Core.Path.{◌≡◌, refl, sym, ◌∙◌}
use mathlib.Core.Bool.{Bool, true, false, not}
use mathlib.Core.List.{List, ◌∷◌, ◌++◌}
use lib.ListN.{drop}
use Rattle.rules.specs.Bytes.{between, byte}
use Rattle.rules.specs.Reason.{first}
use Rattle.rules.specs.Frame.{Update, update_of}
use Rattle.rules.specs.Row.{Row, known, row_for, table_order}
use Rattle.rules.specs.Key.{table_of}
use Rattle.rules.specs.Update.{Tables, entry_order}
use Rattle.rules.specs.Full.{judge_full_by, judge_full}
use Rattle.rules.proofs.Orders.{first_found, first-passed}
use Rattle.judging.specs.Verdict.{judge_in, places_in}

-- of an update u, by the rows in force, the role and what the tables hold; the row of its table was looked up
module _ (rows : List Row) (role : ℕ) (t : Tables) (u : List ℕ) {is_known : Bool} {row : Row}
    (its : is_known ≡ known (table_of (drop 1 u)) rows) (of : row ≡ row_for (table_of (drop 1 u)) rows) where
  abbrev judgement : ℕ
  judgement = judge_in rows role t (update_of u)

  abbrev by_table : List (Bool × ℕ)
  by_table = table_order is_known row role

  abbrev by_entry : List (Bool × ℕ)
  by_entry = entry_order row (byte 0 u) (drop 1 u)

  abbrev by_place : List (Bool × ℕ)
  by_place = places_in row (byte 0 u) (drop 1 u) t

  in-order : judgement ≡ first ((not (between 1 3 (byte 0 u)), 17) ∷ (by_table ++ (by_entry ++ by_place)))
  unfolding judge_full judge_full_by
  in-order = rw (its, of) refl

  pub type-refused : between 1 3 (byte 0 u) ≡ false → 17 ≡ judgement
  unfolding first
  type-refused n = sym (in-order ∙ (rw n refl))

  module _ (typed : between 1 3 (byte 0 u) ≡ true) where
    of-type : judgement ≡ first (by_table ++ (by_entry ++ by_place))
    unfolding first
    of-type = in-order ∙ (rw typed refl)

    pub table-refused : {r : ℕ} → r ≡ first by_table → (r ≡ 0 → ⊥) → r ≡ judgement
    table-refused e n = first_found by_table (by_entry ++ by_place) refl e n ∙ sym of-type

    -- where nothing is said of its table; its row and its entry are lent
    module _ (clear : 0 ≡ first by_table) {lent : Row} {entry : List ℕ} (same : lent ≡ row) (whole : entry ≡ drop 1 u) where
      pub entry-refused : {r : ℕ} → r ≡ first (entry_order lent (byte 0 u) entry) → (r ≡ 0 → ⊥) → r ≡ judgement
      entry-refused e n =
          first-passed by_table (by_entry ++ by_place) refl clear refl (first_found by_entry by_place refl (rw (same, whole) at e) n) ∙ sym of-type

      -- the type as it was read
      pub place-judged : {r type : ℕ} → 0 ≡ first (entry_order lent (byte 0 u) entry) → type ≡ byte 0 u
          → r ≡ first (places_in lent type (drop 1 u) t) → r ≡ judgement
      place-judged z k p =
          first-passed by_table (by_entry ++ by_place) refl clear refl
          (first-passed by_entry by_place refl (rw (same, whole) at z) refl (rw (same, k) at p)) ∙ sym of-type

-- by the rows in force: whether the table is known there, and its row where it is; one that is not known is refused, whatever row is lent
pub judged-by-rows : (rows : List Row) (role : ℕ) (t : Tables) (u : Update) {r : ℕ} {is_known : Bool} {row : Row}
    → r ≡ judge_full_by 2 is_known row role t u → is_known ≡ known (table_of u.entry) rows → (is_known ≡ true → row ≡ row_for (table_of u.entry) rows)
    → r ≡ judge_in rows role t u
unfolding judge_full judge_full_by first
judged-by-rows rows role t u {r} {is_known} {row} j e its = go is_known e its j
  where
    go : (k : Bool) → k ≡ known (table_of u.entry) rows → (k ≡ true → row ≡ row_for (table_of u.entry) rows)
        → r ≡ judge_full_by 2 k row role t u
        → r ≡ judge_full_by 2 (known (table_of u.entry) rows) (row_for (table_of u.entry) rows) role t u
    go true e its j = rw (← e, ← its refl) j
    go false e its j = rw (← e) j
