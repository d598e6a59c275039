-- The order of a READ's reasons is that of its table and then that of its key, which stands behind `only`. Assumes nothing.
use Rattle.std.specs.Prelude.{if◌then◌else◌}
use Prim.Native.Nat.{ℕ, ◌+◌}
use native.Mathlib.Omega.{arith}
use mathlib.Core.Path.{◌≡◌, refl, sym, ap, ◌∙◌}
use mathlib.Core.Bool.{Bool, true, false}
use mathlib.Core.List.{List}
use lib.Dec.{eqb}
use lib.ListN.{length, take, drop}
use lib.Seq.{drop-append-add}
use borrow.Author.Tests.{ne_eqb}
use Rattle.rules.specs.Bytes.{part}
use Rattle.rules.specs.Named.{number_of}
use Rattle.rules.specs.declared.Reason.{Reason}
use Rattle.rules.specs.Reason.{when, first}
use Rattle.rules.specs.Row.{Row, known, row_for, table_order}
use Rattle.rules.specs.Key.{key_order}
use Rattle.rules.proofs.Lists.{part-part}
use Rattle.rules.proofs.Orders.{first_more}
use Rattle.rules.proofs.Shortest.{part_length, joined_length}
use Rattle.rules.specs.Call.{query_order}
use Rattle.reads.specs.Read.{key_in, table_query_order}

-- ---- the key

pub key-length : (b : List ℕ) → length b ≡ 149 → length (key_in b) ≡ 148
key-length b l = joined_length 0 4 5 144 b (omega arith) (omega arith)

-- behind its table it is what follows `only`
pub key-behind : (b : List ℕ) → length b ≡ 149 → part 4 144 (key_in b) ≡ part 5 144 b
key-behind b l =
    let e : length (part 0 4 b) ≡ 4 = part_length 0 4 b (omega arith) in
    ap (take 144) (ap (λ (m : ℕ). drop (m + 0) (key_in b)) (sym e) ∙ drop-append-add (part 0 4 b) (part 5 144 b) 0)
    ∙ part-part 5 144 0 144 b (omega arith)

-- ---- the order

-- of a table by its row: the table's reasons and then the key's
module _ (is_known : Bool) (row : Row) (role only : ℕ) (k : List ℕ) {r : ℕ} (barred : r ≡ first (table_order is_known row role)) where
  in-turn : first (table_query_order is_known row role only k) ≡ (if eqb r 0 then first (when (eqb only 1) (key_order row k)) else r)
  in-turn = first_more (table_order is_known row role) (when (eqb only 1) (key_order row k)) refl ∙ (rw (← barred))

  pub by-table : (r ≡ 0 → ⊥) → r ≡ first (table_query_order is_known row role only k)
  by-table n = sym (in-turn ∙ (rw (ne_eqb r 0 n)))

  module _ (z : r ≡ 0) where
    pub by-nothing : (only ≡ 1 → ⊥) → 0 ≡ first (table_query_order is_known row role only k)
    unfolding first
    by-nothing n = sym (in-turn ∙ (rw (z, ne_eqb only 1 n)))

    pub by_key : {x : ℕ} → only ≡ 1 → x ≡ first (key_order row k) → x ≡ first (table_query_order is_known row role only k)
    by_key o e = e ∙ sym (in-turn ∙ (rw (z, o)))

-- by the rows in force
module _ (rows : List Row) (role table only : ℕ) (k : List ℕ) where
  -- table 0 names none
  pub none_named : table ≡ 0 → (only ≡ 1 → ⊥) → 0 ≡ first (query_order rows role table only k)
  unfolding first
  none_named z n = rw (z, ne_eqb only 1 n)

  -- a table that is named: whether it is known, and its row where it is; one that is not is refused, whatever row is lent
  pub one-named : {is_known : Bool} {row : Row} → (table ≡ 0 → ⊥) → is_known ≡ known table rows → (is_known ≡ true → row ≡ row_for table rows)
      → first (table_query_order is_known row role only k) ≡ first (query_order rows role table only k)
  unfolding first
  one-named {is_known} {row} n e its = rw (ne_eqb table 0 n) (go is_known e its)
    where
      go : (b : Bool) → b ≡ known table rows → (b ≡ true → row ≡ row_for table rows)
          → first (table_query_order b row role only k) ≡ first (table_query_order (known table rows) (row_for table rows) role only k)
      go true e its = rw (← e, its refl)
      go false e its = rw (← e)
