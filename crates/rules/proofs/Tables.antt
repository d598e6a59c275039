-- No update breaks what is sound of the entries: an INSERT passes 15, 20 and 22, a MODIFY keeps every key, both store what passed 17
-- to 19, and a DELETE only takes away. Assumes nothing.
use Rattle.std.specs.Prelude.{if◌then◌else◌}
use Prim.Native.Nat.{ℕ, suc, ◌+◌, ◌≤◌, ◌<◌}
use mathlib.Core.Path.{◌≡◌, refl, sym, ◌∙◌, ap}
use mathlib.Core.Bool.{Bool, true, false, ◌&&◌, ◌||◌, not, false≢true}
use mathlib.Core.List.{List, [], ◌∷◌, ◌++◌, map}
use native.Mathlib.Omega.{arith}
use lib.Dec.{eqb, leb}
use lib.ListN.{length, length-map}
use borrow.Author.Tests.{eqb-true, eqb-false, eq-eqb, ne_eqb, leb-false, not-false}
use Rattle.rules.specs.Bytes.{keep, every, some_of, distinct}
use Rattle.rules.specs.Frame.{Update}
use Rattle.rules.specs.Row.{Row, rows_allowed, known, row_for}
use Rattle.rules.specs.Key.{table_of, key_formed, key_fits, key_rules, key_of, has_key, short_key}
use Rattle.rules.specs.Entry.{action_formed, action_fits, passes, short_entry}
use Rattle.rules.specs.Update.{Tables, no_entries, in_table, stored, held, is_insert, is_modify, is_delete}
use Rattle.rules.specs.Update.{entry_formed, entry_fits, judge, judge_by, perform, apply, each_alone}
use Rattle.rules.specs.Sound.{Stored, EveryStored, Distinct, Within, SoundTables}
use Rattle.rules.proofs.Tests.{or-false, and-true, and-false, both_true, same_true, same-sym}
use Rattle.rules.proofs.Orders.{first-clear}
use Rattle.rules.proofs.Formed.{Whole}
use Rattle.rules.proofs.Shortest.{entry_length, entry-again, key-of-short, table-of-short, table-of-key}
use Rattle.rules.proofs.Checked.{short-passes}
use Rattle.rules.proofs.Counting.{ids-distinct, sizes-fit, entries_fit}

abbrev of : List (List ℕ) → Tables
of es = record { entries = es }

-- ---- an entry under a MODIFY keeps its key, and so its table

-- what a MODIFY to e makes of an entry
abbrev pub revised : List ℕ → List ℕ → List ℕ
revised e old = if has_key (key_of e) old then e else old

key-revised : (e old : List ℕ) → key_of (revised e old) ≡ key_of old
key-revised e old = go (has_key (key_of e) old) refl
  where
    go : (b : Bool) → has_key (key_of e) old ≡ b → key_of (if b then e else old) ≡ key_of old
    go true q = sym (same_true (key_of old) (key_of e) q)
    go false q = refl

table-revised : (e old : List ℕ) → table_of (revised e old) ≡ table_of old
table-revised e old = sym (table-of-key (revised e old)) ∙ (ap table_of (key-revised e old) ∙ table-of-key old)

-- ---- keys stay distinct

-- no entry has the key
abbrev pub Free : List ℕ → List (List ℕ) → Type 0
Free k es = some_of (has_key k) es ≡ false

free-map : (k e : List ℕ) (es : List (List ℕ)) → some_of (has_key k) (map (revised e) es) ≡ some_of (has_key k) es
free-map k e [] = refl
free-map k e (x ∷ es) = rw (key-revised e x, free-map k e es)

free-keep : (k : List ℕ) (p : List ℕ → Bool) (es : List (List ℕ)) → Free k es → Free k (keep p es)
free-keep k p [] h = refl
free-keep k p (x ∷ es) h =
    let q = or-false (has_key k x) (some_of (has_key k) es) h in
    go (p x) q.0 (free-keep k p es q.1)
  where
    go : (b : Bool) → has_key k x ≡ false → Free k (keep p es) → Free k (if b then x ∷ keep p es else keep p es)
    go true q r = rw q r
    go false q r = r

free_snoc : (k : List ℕ) (es : List (List ℕ)) (x : List ℕ) → Free k es → has_key k x ≡ false → Free k (es ++ (x ∷ []))
free_snoc k [] x h n = rw n
free_snoc k (e ∷ es) x h n = let q = or-false (has_key k e) (some_of (has_key k) es) h in rw q.0 (free_snoc k es x q.1 n)

pub distinct-map : (e : List ℕ) (es : List (List ℕ)) → Distinct es → Distinct (map (revised e) es)
unfolding stored
distinct-map e [] d = tt
distinct-map e (x ∷ es) d = (rw (key-revised e x, free-map (key_of x) e es) d.0, distinct-map e es d.1)

pub distinct-keep : (p : List ℕ → Bool) (es : List (List ℕ)) → Distinct es → Distinct (keep p es)
unfolding stored
distinct-keep p [] d = tt
distinct-keep p (x ∷ es) d = go (p x) (distinct-keep p es d.1)
  where
    go : (b : Bool) → Distinct (keep p es) → Distinct (if b then x ∷ keep p es else keep p es)
    go true r = (free-keep (key_of x) p es d.0, r)
    go false r = r

pub distinct_snoc : (es : List (List ℕ)) (x : List ℕ) → Distinct es → Free (key_of x) es → Distinct (es ++ (x ∷ []))
unfolding stored
distinct_snoc [] x d h = (refl, tt)
distinct_snoc (e ∷ es) x d h =
    let q = or-false (has_key (key_of x) e) (some_of (has_key (key_of x)) es) h in
    (free_snoc (key_of e) es x d.0 (same-sym (key_of x) (key_of e) ∙ q.0), distinct_snoc es x d.1 q.1)

-- ---- each entry is 220 bytes in shortest form

stored-map : (e : List ℕ) (es : List (List ℕ)) → Stored e → EveryStored es → EveryStored (map (revised e) es)
stored-map e [] s h = tt
stored-map e (x ∷ es) s h = (go (has_key (key_of e) x), stored-map e es s h.1)
  where
    go : (b : Bool) → Stored (if b then e else x)
    go true = s
    go false = h.0

stored-keep : (p : List ℕ → Bool) (es : List (List ℕ)) → EveryStored es → EveryStored (keep p es)
stored-keep p [] h = tt
stored-keep p (x ∷ es) h = go (p x) (stored-keep p es h.1)
  where
    go : (b : Bool) → EveryStored (keep p es) → EveryStored (if b then x ∷ keep p es else keep p es)
    go true r = (h.0, r)
    go false r = r

stored-snoc : (es : List (List ℕ)) (x : List ℕ) → EveryStored es → Stored x → EveryStored (es ++ (x ∷ []))
stored-snoc [] x h s = (s, tt)
stored-snoc (e ∷ es) x h s = (h.0, stored-snoc es x h.1 s)

short-stored : (e : List ℕ) → length e ≡ 220 → Stored (short_entry e)
short-stored e h = record { size = entry_length e h; shortest = entry-again e h }

-- ---- each entry passes a test: its table is known, and it passes 17 to 19

every_map : (p : List ℕ → Bool) (f : List ℕ → List ℕ) → ((x : List ℕ) → p (f x) ≡ p x) → (es : List (List ℕ)) → every p (map f es) ≡ every p es
every_map p f h [] = refl
every_map p f h (x ∷ es) = rw (h x, every_map p f h es)

every-revised : (p : List ℕ → Bool) (e : List ℕ) (es : List (List ℕ)) → p e ≡ true → every p es ≡ true → every p (map (revised e) es) ≡ true
every-revised p e [] q h = refl
every-revised p e (x ∷ es) q h =
    let w = and-true (p x) (every p es) h in
    both_true (go (has_key (key_of e) x) w.0) (every-revised p e es q w.1)
  where
    go : (b : Bool) → p x ≡ true → p (if b then e else x) ≡ true
    go true w = q
    go false w = w

every-keep : (p q : List ℕ → Bool) (es : List (List ℕ)) → every p es ≡ true → every p (keep q es) ≡ true
every-keep p q [] h = refl
every-keep p q (x ∷ es) h =
    let w = and-true (p x) (every p es) h in
    go (q x) w.0 (every-keep p q es w.1)
  where
    go : (b : Bool) → p x ≡ true → every p (keep q es) ≡ true → every p (if b then x ∷ keep q es else keep q es) ≡ true
    go true w r = rw w r
    go false w r = r

every-snoc : (p : List ℕ → Bool) (es : List (List ℕ)) (x : List ℕ) → every p es ≡ true → p x ≡ true → every p (es ++ (x ∷ [])) ≡ true
every-snoc p [] x h q = rw q
every-snoc p (e ∷ es) x h q = let w = and-true (p e) (every p es) h in rw w.0 (every-snoc p es x w.1 q)

-- and so after an update, and after a batch, where what they would store passes it
module _ (p : List ℕ → Bool) where
  apply-every : (r : ℕ) (u : Update) (t : Tables) → p (short_entry u.entry) ≡ true → every p t.entries ≡ true
      → every p (apply r u t).entries ≡ true
  unfolding apply perform
  apply-every r u t q h = go (eqb r 0) (is_insert u.type) (is_modify u.type)
    where
      e : List ℕ
      e = short_entry u.entry

      go : (a b c : Bool)
          → every p (if a then record {
            entries =
                if b then t.entries ++ (e ∷ []) else
                if c then map (revised e) t.entries else
                keep (λ (old : List ℕ). not (has_key (short_key u.entry) old)) t.entries;
          } else t).entries ≡ true
      go true true c = every-snoc p t.entries e h q
      go true false true = every-revised p e t.entries q h
      go true false false = every-keep p _ t.entries h
      go false b c = h

  pub alone-every : (rows : List Row) (role : ℕ) (t : Tables) (us : List Update)
      → every (λ (u : Update). p (short_entry u.entry)) us ≡ true → every p t.entries ≡ true
      → every p (each_alone (judge rows role) t us).tables.entries ≡ true
  unfolding each_alone
  alone-every rows role t [] q h = h
  alone-every rows role t (u ∷ us) q h =
      let w = and-true (p (short_entry u.entry)) (every (λ (u : Update). p (short_entry u.entry)) us) q in
      let r : ℕ = judge rows role t u in
      alone-every rows role (apply r u t) us w.1 (apply-every r u t w.0 h)

-- ---- no table holds more than its size

-- the number of entries of a list that pass a test
module _ (p : List ℕ → Bool) where
  count-snoc : (es : List (List ℕ)) (x : List ℕ) (b : Bool) → p x ≡ b → length (keep p (es ++ (x ∷ []))) ≡ length (keep p es) + (if b then 1 else 0)
  count-snoc [] x true q = rw q
  count-snoc [] x false q = rw q
  count-snoc (e ∷ es) x b q = go (p e) (count-snoc es x b q)
    where
      go : (t : Bool) → length (keep p (es ++ (x ∷ []))) ≡ length (keep p es) + (if b then 1 else 0)
          → length (if t then e ∷ keep p (es ++ (x ∷ [])) else keep p (es ++ (x ∷ [])))
          ≡ length (if t then e ∷ keep p es else keep p es) + (if b then 1 else 0)
      go true h = omega arith
      go false h = h

  count_map : (f : List ℕ → List ℕ) → ((x : List ℕ) → p (f x) ≡ p x) → (es : List (List ℕ)) → length (keep p (map f es)) ≡ length (keep p es)
  count_map f h [] = refl
  count_map f h (x ∷ es) = rw (h x) (go (p x) (count_map f h es))
    where
      go : (t : Bool) → length (keep p (map f es)) ≡ length (keep p es)
          → length (if t then f x ∷ keep p (map f es) else keep p (map f es)) ≡ length (if t then x ∷ keep p es else keep p es)
      go true r = ap suc r
      go false r = r

  count-keep : (q : List ℕ → Bool) (es : List (List ℕ)) → length (keep p (keep q es)) ≤ length (keep p es)
  count-keep q [] = omega arith
  count-keep q (x ∷ es) = go (q x) (p x) refl (count-keep q es)
    where
      go : (s t : Bool) → p x ≡ t → length (keep p (keep q es)) ≤ length (keep p es)
          → length (keep p (if s then x ∷ keep q es else keep q es)) ≤ length (if t then x ∷ keep p es else keep p es)
      go true true e r = rw e (omega arith)
      go true false e r = rw e r
      go false true e r = omega arith
      go false false e r = r

pub keep-fewer : (q : List ℕ → Bool) (es : List (List ℕ)) → length (keep q es) ≤ length es
keep-fewer q [] = omega arith
keep-fewer q (x ∷ es) = go (q x) (keep-fewer q es)
  where
    go : (b : Bool) → length (keep q es) ≤ length es → length (if b then x ∷ keep q es else keep q es) ≤ suc (length es)
    go true r = omega arith
    go false r = omega arith

within-less : (rows : List Row) (t u : Tables) → ((id : ℕ) → held id u ≤ held id t) → Within rows t → Within rows u
within-less [] t u h w = tt
within-less (r ∷ rows) t u h w = (omega (arith, h r.table, w.0), within-less rows t u h w.1)

-- an INSERT into no table of the rows
within-other : (rows : List Row) (es : List (List ℕ)) (x : List ℕ) → known (table_of x) rows ≡ false → Within rows (of es)
    → Within rows (of (es ++ (x ∷ [])))
unfolding held
within-other [] es x n w = tt
within-other (r ∷ rows) es x n w =
    let q = or-false (eqb r.table (table_of x)) (known (table_of x) rows) n in
    let a : eqb (table_of x) r.table ≡ false = ne_eqb (table_of x) r.table (λ z. eqb-false r.table (table_of x) q.0 (sym z)) in
    (omega (arith, count-snoc (in_table r.table) es x false a, w.0), within-other rows es x q.1 w.1)

-- the table ids of the rows after one differ from its own
pub others : (id : ℕ) (rows : List Row) → some_of (eqb id) (map (λ (r : Row). r.table) rows) ≡ false → known id rows ≡ false
others id [] h = refl
others id (r ∷ rows) h =
    let q = or-false (eqb id r.table) (some_of (eqb id) (map (λ (r : Row). r.table) rows)) h in
    rw (ne_eqb r.table id (λ z. eqb-false id r.table q.0 (sym z))) (others id rows q.1)

-- an INSERT into a table that is not full
within-snoc : (rows : List Row) (es : List (List ℕ)) (x : List ℕ) → distinct (map (λ (r : Row). r.table) rows) ≡ true
    → known (table_of x) rows ≡ true → held (table_of x) (of es) < (row_for (table_of x) rows).size → Within rows (of es)
    → Within rows (of (es ++ (x ∷ [])))
unfolding held row_for
within-snoc [] es x d k h w = absurd (false≢true k)
within-snoc (r ∷ rows) es x d k h w =
    let z = alone (some_of (eqb r.table) (map (λ (r : Row). r.table) rows)) refl d in
    go (eqb r.table (table_of x)) refl k h (λ a b. within-snoc rows es x z.1 a b w.1) z.0
  where
    rest : List ℕ
    rest = map (λ (r : Row). r.table) rows

    alone : (b : Bool) → some_of (eqb r.table) rest ≡ b → (if b then false else distinct rest) ≡ true
        → (some_of (eqb r.table) rest ≡ false) × (distinct rest ≡ true)
    alone true q e = absurd (false≢true e)
    alone false q e = (q, e)

    go : (b : Bool) → eqb r.table (table_of x) ≡ b → b || known (table_of x) rows ≡ true
        → held (table_of x) (of es) < (if b then r else row_for (table_of x) rows).size
        → (known (table_of x) rows ≡ true → held (table_of x) (of es) < (row_for (table_of x) rows).size → Within rows (of (es ++ (x ∷ []))))
        → some_of (eqb r.table) rest ≡ false
        → (held r.table (of (es ++ (x ∷ []))) ≤ r.size) × Within rows (of (es ++ (x ∷ [])))
    go true q k h ih apart =
        let p : r.table ≡ table_of x = eqb-true r.table (table_of x) q in
        let a : eqb (table_of x) r.table ≡ true = eq-eqb (table_of x) r.table (sym p) in
        let room : held r.table (of es) < r.size = rw p h in (
          omega (arith, count-snoc (in_table r.table) es x true a, room),
          within-other rows es x (rw (← p) (others r.table rows apart)) w.1,
        )
    go false q k h ih apart =
        let a : eqb (table_of x) r.table ≡ false = ne_eqb (table_of x) r.table (λ z. eqb-false r.table (table_of x) q (sym z)) in
        (omega (arith, count-snoc (in_table r.table) es x false a, w.0), ih k h)

-- a known table's row is its own
pub row-table : (id : ℕ) (rows : List Row) → known id rows ≡ true → (row_for id rows).table ≡ id
unfolding row_for
row-table id [] k = absurd (false≢true k)
row-table id (r ∷ rows) k = go (eqb r.table id) refl k (λ h. row-table id rows h)
  where
    go : (b : Bool) → eqb r.table id ≡ b → b || known id rows ≡ true → (known id rows ≡ true → (row_for id rows).table ≡ id)
        → (if b then r else row_for id rows).table ≡ id
    go true q k ih = eqb-true r.table id q
    go false q k ih = ih k

-- ---- one update, and a batch

-- an INSERT or a MODIFY that is refused under no reason passed 17 to 19 whole, and what is stored of it passes them
passed : (rows : List Row) (role : ℕ) (t : Tables) (u : Update) → is_delete u.type ≡ false → judge rows role t u ≡ 0
    → passes (row_for (table_of u.entry) rows) u.entry ≡ true
unfolding judge judge_by entry_formed entry_fits passes
passed rows role t u d j =
    let e : List ℕ = u.entry in
    let row : Row = row_for (table_of e) rows in
    let c = rw d at (first-clear _ refl j).1.1.1 in
    let formed : key_formed row e && action_formed row e ≡ true = not-false _ c.0 in
    let fit : key_fits row e && action_fits row e ≡ true = not-false _ c.1.0 in
    let rules : key_rules row e ≡ true = not-false _ c.1.1.0 in
    both_true (both_true formed fit) rules

short-passed : (rows : List Row) (role : ℕ) (t : Tables) (u : Update) → length u.entry ≡ 220 → is_delete u.type ≡ false
    → judge rows role t u ≡ 0 → passes (row_for (table_of (short_entry u.entry)) rows) (short_entry u.entry) ≡ true
short-passed rows role t u l d j = rw (table-of-short u.entry l) (short-passes _ u.entry l (passed rows role t u d j))

-- an INSERT and a MODIFY are no DELETE
no-delete : (type n : ℕ) → eqb type n ≡ true → eqb n 3 ≡ false → is_delete type ≡ false
no-delete type n e d = rw (eqb-true type n e) d

module _ (rows : List Row) (allowed : rows_allowed rows ≡ true) where
  -- an INSERT that is refused under no reason
  insert-sound : (role : ℕ) (t : Tables) (u : Update) → length u.entry ≡ 220 → judge rows role t u ≡ 0 → is_insert u.type ≡ true
      → SoundTables rows t → SoundTables rows (of (t.entries ++ (short_entry u.entry ∷ [])))
  unfolding judge judge_by stored
  insert-sound role t u l j i ok =
      let e : List ℕ = u.entry in
      let c = first-clear _ refl j in
      let in-table : table_of (short_entry e) ≡ table_of e = table-of-short e l in
      let has-row : known (table_of e) rows ≡ true = not-false _ c.1.0 in
      let free : some_of (has_key (short_key e)) t.entries ≡ false = and-false _ _ c.1.1.1.1.1.1.0 i in
      let full : leb (row_for (table_of e) rows).size (held (row_for (table_of e) rows).table t) ≡ false =
      and-false _ _ c.1.1.1.1.1.1.1.1.0 i in
      let room : held (row_for (table_of e) rows).table t < (row_for (table_of e) rows).size = leb-false _ _ full in
      let after : Tables = of (t.entries ++ (short_entry e ∷ [])) in
      let tables-known : every (λ (x : List ℕ). known (table_of x) rows) after.entries ≡ true =
      every-snoc _ t.entries (short_entry e) ok.known-tables (rw in-table has-row) in
      let no_more : Within rows after = within-snoc rows t.entries (short_entry e) (ids-distinct rows allowed) (rw in-table has-row)
      (rw in-table (rw (row-table (table_of e) rows has-row) at room)) ok.within in
      record {
        few = omega (arith, entries_fit rows after tables-known no_more, sizes-fit rows allowed);
        shortest = stored-snoc t.entries (short_entry e) ok.shortest (short-stored e l);
        distinct = distinct_snoc t.entries (short_entry e) ok.distinct (rw (key-of-short e l) free);
        known-tables = tables-known;
        within = no_more;
        checked = every-snoc _ t.entries (short_entry e) ok.checked (short-passed rows role t u l (no-delete u.type 1 i refl) j);
      }

  modify-sound : (t : Tables) (e : List ℕ) → Stored e → passes (row_for (table_of e) rows) e ≡ true → SoundTables rows t
      → SoundTables rows (of (map (revised e) t.entries))
  unfolding held
  modify-sound t e s q ok = record {
    few = omega (arith, length-map t.entries (revised e), ok.few);
    shortest = stored-map e t.entries s ok.shortest;
    distinct = distinct-map e t.entries ok.distinct;
    known-tables = every_map _ (revised e) (λ x. ap (λ id. known id rows) (table-revised e x)) t.entries ∙ ok.known-tables;
    within = within-less rows t _
        (λ id. omega (arith, count_map (in_table id) (revised e) (λ x. ap (λ i. eqb i id) (table-revised e x)) t.entries)) ok.within;
    checked = every-revised _ e t.entries q ok.checked;
  }

  delete-sound : (t : Tables) (p : List ℕ → Bool) → SoundTables rows t → SoundTables rows (of (keep p t.entries))
  unfolding held
  delete-sound t p ok = record {
    few = omega (arith, keep-fewer p t.entries, ok.few);
    shortest = stored-keep p t.entries ok.shortest;
    distinct = distinct-keep p t.entries ok.distinct;
    known-tables = every-keep _ p t.entries ok.known-tables;
    within = within-less rows t _ (λ id. count-keep (in_table id) p t.entries) ok.within;
    checked = every-keep _ p t.entries ok.checked;
  }

  pub apply-sound : (role : ℕ) (t : Tables) (u : Update) → length u.entry ≡ 220 → SoundTables rows t
      → SoundTables rows (apply (judge rows role t u) u t)
  unfolding apply perform
  apply-sound role t u l ok = go (eqb (judge rows role t u) 0) (is_insert u.type) (is_modify u.type) refl refl refl
    where
      e : List ℕ
      e = short_entry u.entry

      go : (a b c : Bool) → eqb (judge rows role t u) 0 ≡ a → is_insert u.type ≡ b → is_modify u.type ≡ c
          → SoundTables rows (if a then record {
            entries =
                if b then t.entries ++ (e ∷ []) else
                if c then map (revised e) t.entries else
                keep (λ (old : List ℕ). not (has_key (short_key u.entry) old)) t.entries;
          } else t)
      go true true c p q m = insert-sound role t u l (eqb-true _ _ p) q ok
      go true false true p q m =
          modify-sound t e (short-stored u.entry l) (short-passed rows role t u l (no-delete u.type 2 m refl) (eqb-true _ _ p)) ok
      go true false false p q m = delete-sound t _ ok
      go false b c p q m = ok

  pub alone-sound : (role : ℕ) (t : Tables) (us : List Update) → Whole us → SoundTables rows t
      → SoundTables rows (each_alone (judge rows role) t us).tables
  unfolding each_alone
  alone-sound role t [] h ok = ok
  alone-sound role t (u ∷ us) h ok = alone-sound role (apply (judge rows role t u) u t) us h.1 (apply-sound role t u h.0 ok)

none_within : (rows : List Row) → Within rows no_entries
unfolding held
none_within [] = tt
none_within (r ∷ rows) = (omega arith, none_within rows)

pub none-sound : (rows : List Row) → SoundTables rows no_entries
none-sound rows = record { few = omega arith; shortest = tt; distinct = tt; known-tables = refl; within = none_within rows; checked = refl }
