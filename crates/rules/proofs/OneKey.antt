-- With only 1 a READ shows the entry of its key among all that are stored: its table has one row, and no entry of another table
-- has the key. Assumes nothing.
use Rattle.std.specs.Prelude.{if◌then◌else◌}
use Prim.Native.Nat.{ℕ}
use mathlib.Core.Path.{◌≡◌, refl, sym, ◌∙◌, ap, fun_ext}
use mathlib.Core.Bool.{Bool, true, false, ◌&&◌, ◌||◌, not, false≢true}
use mathlib.Core.List.{List, [], ◌∷◌, map, append-nil}
use native.Mathlib.Omega.{arith}
use lib.Dec.{eqb}
use borrow.Author.Tests.{eqb-true, eq-eqb, ne_eqb, not-false}
use Rattle.rules.specs.Bytes.{keep, some_of, distinct}
use Rattle.rules.specs.Frame.{Query, READ, on_tables}
use Rattle.rules.specs.Row.{Row, known, row_for}
use Rattle.rules.specs.Key.{table_of, key_of, has_key, short_key}
use Rattle.rules.specs.Update.{in_table}
use Rattle.rules.specs.Call.{State, read_reason, refusal, accepted, shown}
use Rattle.rules.specs.Sound.{Sound}
use Rattle.rules.proofs.Tests.{or-false, and-false, same_true}
use Rattle.rules.proofs.Orders.{first-clear}
use Rattle.rules.proofs.Formed.{Formed}
use Rattle.rules.proofs.Shortest.{table-of-key, table-of-short-key}
use Rattle.rules.proofs.Tables.{others, row-table}
use Rattle.rules.proofs.Counting.{ids-distinct}
use Rattle.rules.proofs.LookBack.{keep-keep}

-- the entries of a key are in its table
key-in-table : (k e : List ℕ) → in_table (table_of k) e && has_key k e ≡ has_key k e
key-in-table k e = go (has_key k e) refl
  where
    go : (b : Bool) → has_key k e ≡ b → in_table (table_of k) e && b ≡ b
    go true h = rw (eq-eqb (table_of e) (table_of k) (sym (table-of-key e) ∙ ap table_of (same_true (key_of e) k h)))
    go false h = and_none (in_table (table_of k) e)
      where
        and_none : (b : Bool) → b && false ≡ false
        and_none true = refl
        and_none false = refl

key-of-table : (k : List ℕ) (es : List (List ℕ)) → keep (has_key k) (keep (in_table (table_of k)) es) ≡ keep (has_key k) es
key-of-table k es =
    sym (keep-keep (in_table (table_of k)) (has_key k) es) ∙ ap (λ p. keep p es) (fun_ext (λ (e : List ℕ). key-in-table k e))

-- the rows of a table
abbrev rows_for : ℕ → List Row → List Row
rows_for table rows = keep (λ (r : Row). eqb r.table table) rows

no_row : (table : ℕ) (rows : List Row) → known table rows ≡ false → rows_for table rows ≡ []
no_row table [] h = refl
no_row table (r ∷ rows) h =
    let q = or-false (eqb r.table table) (known table rows) h in
    rw q.0 (no_row table rows q.1)

one-row : (table : ℕ) (rows : List Row) → distinct (map (λ (r : Row). r.table) rows) ≡ true → known table rows ≡ true
    → rows_for table rows ≡ row_for table rows ∷ []
unfolding row_for
one-row table [] d k = absurd (false≢true k)
one-row table (r ∷ rows) d k =
    let z = alone (some_of (eqb r.table) rest) refl d in
    go (eqb r.table table) refl k z.0 (λ h. one-row table rows z.1 h)
  where
    rest : List ℕ
    rest = map (λ (r : Row). r.table) rows

    alone : (b : Bool) → some_of (eqb r.table) rest ≡ b → (if b then false else distinct rest) ≡ true
        → (some_of (eqb r.table) rest ≡ false) × (distinct rest ≡ true)
    alone true q e = absurd (false≢true e)
    alone false q e = (q, e)

    go : (b : Bool) → eqb r.table table ≡ b → b || known table rows ≡ true → some_of (eqb r.table) rest ≡ false
        → (known table rows ≡ true → rows_for table rows ≡ row_for table rows ∷ [])
        → (if b then r ∷ rows_for table rows else rows_for table rows) ≡ (if b then r else row_for table rows) ∷ []
    go true q k apart ih =
        ap (λ (l : List Row). r ∷ l) (no_row table rows (rw (eqb-true r.table table q) at (others r.table rows apart)))
    go false q k apart ih = ih k

-- what a READ of one key shows
pub one_key : (s : State) (q : Query) → Formed (on_tables (READ q)) → Sound s → accepted s (on_tables (READ q)) ≡ true → q.only ≡ 1
    → shown s q ≡ keep (has_key (short_key q.key)) s.tables.entries
unfolding shown refusal read_reason
one_key s q f ok a o =
    rw (o, rows, table, append-nil)
    (ap (λ (t : ℕ). keep (has_key k) (keep (in_table t) s.tables.entries)) (sym here) ∙ key-of-table k s.tables.entries)
  where
    k : List ℕ
    k = short_key q.key

    named : eqb q.table 0 ≡ false
    named = ne_eqb q.table 0 (f.2 o)

    has-row : known q.table s.control.rows ≡ true
    has-row =
        let n : not (eqb q.table 0) ≡ true = ap not named in
        not-false (known q.table s.control.rows) (and-false _ _ (first-clear _ refl (eqb-true _ 0 a)).1.1.1.0 n)

    rows : keep (λ (r : Row). if eqb q.table 0 then eqb q.role 0 || eqb r.owner q.role else eqb r.table q.table) s.control.rows
        ≡ row_for q.table s.control.rows ∷ []
    rows = rw named (one-row q.table s.control.rows (ids-distinct s.control.rows ok.rows) has-row)

    table : (row_for q.table s.control.rows).table ≡ q.table
    table = row-table q.table s.control.rows has-row

    here : table_of k ≡ q.table
    here = table-of-short-key q.key (omega (arith, f.0)) ∙ f.1
