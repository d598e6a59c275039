-- How many entries the tables hold together: each entry is of some table, so there are no more of them than the sizes of the rows
-- allow, and fewer where a table is not full. Assumes nothing.
use Rattle.std.specs.Prelude.{if◌then◌else◌}
use Prim.Native.Nat.{ℕ, suc, ◌+◌, ◌≤◌, ◌<◌}
use mathlib.Core.Path.{◌≡◌, refl, sym}
use mathlib.Core.Bool.{Bool, true, false, ◌&&◌, ◌||◌, false≢true}
use mathlib.Core.List.{List, [], ◌∷◌, map}
use native.Mathlib.Omega.{arith}
use lib.Dec.{eqb}
use lib.ListN.{length}
use borrow.Author.Tests.{eqb-true, eqb-false, eq-eqb, ne_eqb, leb-true}
use Rattle.rules.specs.Bytes.{keep, every, sum, distinct}
use Rattle.rules.specs.Row.{Row, row_allowed, rows_allowed, known, row_for}
use Rattle.rules.specs.Key.{table_of}
use Rattle.rules.specs.Update.{Tables, in_table, held}
use Rattle.rules.specs.Sound.{Within}
use Rattle.rules.proofs.Tests.{and-true}

-- ---- rows that 14 allows

abbrev pub sizes : List Row → ℕ
sizes rows = sum (map (λ (r : Row). r.size) rows)

abbrev ids : List Row → List ℕ
ids rows = map (λ (r : Row). r.table) rows

pub ids-distinct : (rows : List Row) → rows_allowed rows ≡ true → distinct (ids rows) ≡ true
unfolding rows_allowed
ids-distinct rows h = (and-true (every row_allowed rows) (distinct (ids rows)) (and-true (every row_allowed rows && distinct (ids rows)) _ h).0).1

pub sizes-fit : (rows : List Row) → rows_allowed rows ≡ true → sizes rows ≤ 256
unfolding rows_allowed
sizes-fit rows h = leb-true _ 256 (and-true (every row_allowed rows && distinct (ids rows)) _ h).1

-- ---- entries, table by table

abbrev counted : ℕ → List (List ℕ) → ℕ
counted id es = length (keep (in_table id) es)

-- the entries of each row's table, added up
abbrev total : List Row → List (List ℕ) → ℕ
total rows es = sum (map (λ (r : Row). counted r.table es) rows)

-- ---- each entry is counted

no-fewer : (rows : List Row) (e : List ℕ) (es : List (List ℕ)) → total rows es ≤ total rows (e ∷ es)
no-fewer [] e es = omega arith
no-fewer (r ∷ rows) e es = go (in_table r.table e) (no-fewer rows e es)
  where
    go : (b : Bool) → total rows es ≤ total rows (e ∷ es)
        → counted r.table es + total rows es
        ≤ length (if b then e ∷ keep (in_table r.table) es else keep (in_table r.table) es) + total rows (e ∷ es)
    go true h = omega arith
    go false h = omega arith

one_more : (rows : List Row) (e : List ℕ) (es : List (List ℕ)) → known (table_of e) rows ≡ true → suc (total rows es) ≤ total rows (e ∷ es)
one_more [] e es k = absurd (false≢true k)
one_more (r ∷ rows) e es k = go (eqb r.table (table_of e)) refl k (no-fewer rows e es) (λ h. one_more rows e es h)
  where
    go : (b : Bool) → eqb r.table (table_of e) ≡ b → b || known (table_of e) rows ≡ true → total rows es ≤ total rows (e ∷ es)
        → (known (table_of e) rows ≡ true → suc (total rows es) ≤ total rows (e ∷ es))
        → suc (counted r.table es + total rows es) ≤ counted r.table (e ∷ es) + total rows (e ∷ es)
    go true q k h ih = rw (eq-eqb (table_of e) r.table (sym (eqb-true r.table (table_of e) q))) (omega arith)
    go false q k h ih =
        rw (ne_eqb (table_of e) r.table (λ z. eqb-false r.table (table_of e) q (sym z))) (omega (arith, ih k))

all-counted : (rows : List Row) (es : List (List ℕ)) → every (λ (e : List ℕ). known (table_of e) rows) es ≡ true → length es ≤ total rows es
all-counted rows [] h = omega arith
all-counted rows (e ∷ es) h =
    let w = and-true (known (table_of e) rows) (every (λ (e : List ℕ). known (table_of e) rows) es) h in
    omega (arith, all-counted rows es w.1, one_more rows e es w.0)

-- ---- no table holds more than its size, and one that is not full holds less

total-within : (rows : List Row) (t : Tables) → Within rows t → total rows t.entries ≤ sizes rows
unfolding held
total-within [] t w = omega arith
total-within (r ∷ rows) t w = omega (arith, w.0, total-within rows t w.1)

total-below : (rows : List Row) (t : Tables) (id : ℕ) → Within rows t → known id rows ≡ true → held id t < (row_for id rows).size
    → total rows t.entries < sizes rows
unfolding held row_for
total-below [] t id w k h = absurd (false≢true k)
total-below (r ∷ rows) t id w k h = go (eqb r.table id) refl k h (total-within rows t w.1) (λ a b. total-below rows t id w.1 a b)
  where
    go : (b : Bool) → eqb r.table id ≡ b → b || known id rows ≡ true → held id t < (if b then r else row_for id rows).size
        → total rows t.entries ≤ sizes rows
        → (known id rows ≡ true → held id t < (row_for id rows).size → total rows t.entries < sizes rows)
        → counted r.table t.entries + total rows t.entries < r.size + sizes rows
    go true q k h l ih =
        let own : held r.table t < r.size = rw (eqb-true r.table id q) h in
        omega (arith, own)
    go false q k h l ih = omega (arith, w.0, ih k h)

-- ---- so the entries are no more than the sizes together, and fewer where a table is not full

pub entries_fit : (rows : List Row) (t : Tables) → every (λ (e : List ℕ). known (table_of e) rows) t.entries ≡ true → Within rows t
    → length t.entries ≤ sizes rows
entries_fit rows t k w = omega (arith, all-counted rows t.entries k, total-within rows t w)

pub room-left : (rows : List Row) (t : Tables) (id : ℕ) → every (λ (e : List ℕ). known (table_of e) rows) t.entries ≡ true → Within rows t
    → known id rows ≡ true → held id t < (row_for id rows).size → length t.entries < sizes rows
room-left rows t id k w i h = omega (arith, all-counted rows t.entries k, total-below rows t id w i h)
