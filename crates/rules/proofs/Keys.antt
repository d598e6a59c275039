-- Keys are compared as numbers after every list of calls: what is stored is bytes and passed 17, so that its shortest forms are
-- equal where its numbers are, and keys of different tables differ in both. Assumes nothing.
use Rattle.std.specs.Prelude.{if◌then◌else◌}
use Prim.Native.Nat.{ℕ, ◌≤◌}
use mathlib.Core.Path.{◌≡◌, refl, sym, ap, ap₂, ◌∙◌, subst}
use mathlib.Core.Bool.{Bool, true, false, ◌&&◌, ◌||◌, not, true≢false, false≢true}
use mathlib.Core.Logic.{inl, inr, ◌↔◌}
use mathlib.Core.List.{List, [], ◌∷◌, ◌++◌, map}
use native.Mathlib.Omega.{arith}
use lib.Dec.{eqb, leb}
use lib.ListN.{length, length-take}
use borrow.Author.Tests.{eqb-true, eqb-false, eq-eqb, ne_eqb, not-false}
use Rattle.rules.specs.Bytes.{between, keep, every, some_of, concat, all_bytes, same}
use Rattle.rules.specs.Reason.{first}
use Rattle.rules.specs.Frame.{Head, Update, Query, WRITE, READ, on_tables}
use Rattle.rules.specs.Row.{Row, known, row_for, may_write}
use Rattle.rules.specs.Key.{table_of, slot_numbers, key_formed, key_fits, key_rules, short_key, key_numbers, key_of, has_key, same_key}
use Rattle.rules.specs.Entry.{action_formed, action_fits, passes}
use Rattle.rules.specs.Update.{Tables, is_insert, is_delete, stored, held, entry_formed, entry_fits, judge, judge_by, batch}
use Rattle.rules.specs.Call.{State, fresh, read_reason, refusal, accepted, batch_of, command_of, run}
use Rattle.rules.specs.LookBack.{History, nothing, present, state_seen, reason_at, with_updates, look_back, read_seen}
use Rattle.rules.specs.Agreement.{commands_of, history_of}
use Rattle.rules.specs.Presence.{In, Ordered}
use Rattle.rules.specs.Sound.{Stored, EveryStored, Distinct, SoundTables, Sound}
use Rattle.rules.specs.Keys.{SameKey, Compared, KeysAsNumbers}
use Rattle.rules.proofs.Tests.{contradiction, fails, and-true, and-false, same_true, eq-same, every-split, every_take}
use Rattle.rules.proofs.Orders.{first-clear, first-avoids, first_passes, first_more}
use Rattle.rules.proofs.Formed.{Whole, Formed, call-formed, whole-place}
use Rattle.rules.proofs.Shortest.{key-of-key, slots-of-key, priority-of-key, formed-of-key, table-of-key, table-of-short-key, key-of-short}
use Rattle.rules.proofs.Numbers.{keys-same}
use Rattle.rules.proofs.InPlace.{key-compared}
use Rattle.rules.proofs.Tables.{alone-every, alone-sound}
use Rattle.rules.proofs.Sound.{sound}
use Rattle.rules.proofs.LookBack.{alone-shows, noted-control, shown-seen, fresh-shows}
use Rattle.rules.proofs.OneKey.{one_key}
use Rattle.rules.proofs.Members.{in-every, in_some, some_in, in-keep, keep-in}
use Rattle.rules.proofs.OfBytes.{is_byte, entry_of_bytes, OfBytes, call-bytes, entries-bytes, AllStored, run-bytes}

-- ---- the key of a stored entry

numbers-of-key : (e : List ℕ) → key_numbers (key_of e) ≡ key_numbers e
unfolding key_numbers
numbers-of-key e =
    ap₂ ◌∷◌ (table-of-key e) (ap₂ ◌∷◌ (priority-of-key e) (ap (λ ss. concat (map slot_numbers ss)) (slots-of-key e)))

-- two keys that pass 17 by one row, with whatever follows them
same_row : (row : Row) (k j : List ℕ) → 148 ≤ length k → 148 ≤ length j → all_bytes k ≡ true → all_bytes j ≡ true
    → key_formed row k ≡ true → key_formed row j ≡ true → (key_numbers k ≡ key_numbers j) ↔ (short_key k ≡ short_key j)
same_row row k j h g p q a b =
    let l : length (key_of k) ≡ 148 = simp length-take (omega arith) in
    let m : length (key_of j) ≡ 148 = simp length-take (omega arith) in
    let r = keys-same row (key_of k) (key_of j) l m (every_take is_byte 148 k p) (every_take is_byte 148 j q)
    (formed-of-key row k ∙ a) (formed-of-key row j ∙ b) in
    rw (numbers-of-key k, numbers-of-key j, key-of-key k, key-of-key j) at r

-- of one table they pass 17 by one row; of two tables they differ either way
same_rows : (rows : List Row) (k j : List ℕ) → 148 ≤ length k → 148 ≤ length j → all_bytes k ≡ true → all_bytes j ≡ true
    → key_formed (row_for (table_of k) rows) k ≡ true → key_formed (row_for (table_of j) rows) j ≡ true
    → (key_numbers k ≡ key_numbers j) ↔ (short_key k ≡ short_key j)
unfolding key_numbers
same_rows rows k j h g p q a b = (λ n. (one (cc)).0 n, λ s. (one (tables s)).1 s)
  where
    one : table_of k ≡ table_of j → (key_numbers k ≡ key_numbers j) ↔ (short_key k ≡ short_key j)
    one t = same_row (row_for (table_of k) rows) k j h g p q a (rw t b)

    tables : short_key k ≡ short_key j → table_of k ≡ table_of j
    tables s = sym (table-of-short-key k h) ∙ ap table_of s ∙ table-of-short-key j g

stored-key : (e : List ℕ) → Stored e → key_of e ≡ short_key e
stored-key e s = ap key_of (sym s.shortest) ∙ key-of-short e s.size

-- compared where they are with a stored key
stored-compared : (e k : List ℕ) → Stored e → 148 ≤ length k → (same_key (key_of e) k ≡ true) ↔ (short_key e ≡ short_key k)
stored-compared e k s h =
    let own : key_of e ≡ short_key e = stored-key e s in
    let l : length (key_of e) ≡ 148 = simp length-take (omega (arith, s.size)) in
    let c : same_key (key_of e) k ≡ same (key_of e) (short_key k) = key-compared (key_of e) k l h in
    (λ y. sym own ∙ same_true (key_of e) (short_key k) (sym c ∙ y), λ q. c ∙ eq-same (own ∙ q))

-- ---- entries that are sound and bytes

in-stored : (es : List (List ℕ)) → EveryStored es → (e : List ℕ) → In e es → Stored e
in-stored [] h e i = absurd i
in-stored (x ∷ es) h e (inl q) = subst Stored (sym q) h.0
in-stored (x ∷ es) h e (inr i) = in-stored es h.1 e i

module _ (rows : List Row) (t : Tables) (ok : SoundTables rows t) (bytes : AllStored t) where
  whole : (e : List ℕ) → In e t.entries → Stored e
  whole e i = in-stored t.entries ok.shortest e i

  -- what is stored passed 17
  formed : (e : List ℕ) → In e t.entries → key_formed (row_for (table_of e) rows) e ≡ true
  unfolding passes
  formed e i =
      let row : Row = row_for (table_of e) rows in
      let all = in-every (λ (e : List ℕ). passes (row_for (table_of e) rows) e) t.entries e i ok.checked in
      let most = (and-true ((key_formed row e && action_formed row e) && (key_fits row e && action_fits row e)) (key_rules row e) all).0 in
      let both = (and-true (key_formed row e && action_formed row e) (key_fits row e && action_fits row e) most).0 in
      (and-true (key_formed row e) (action_formed row e) both).0

  module _ (k : List ℕ) (l : 148 ≤ length k) (b : all_bytes k ≡ true) (f : key_formed (row_for (table_of k) rows) k ≡ true) where
    each-key : (e : List ℕ) → In e t.entries → (has_key (short_key k) e ≡ true) ↔ (key_numbers e ≡ key_numbers k)
    each-key e i = (λ h. r.1 (sym own ∙ same_true (key_of e) (short_key k) h), λ n. eq-same (own ∙ r.0 n))
      where
        own : key_of e ≡ short_key e
        own = stored-key e (whole e i)

        r : (key_numbers e ≡ key_numbers k) ↔ (short_key e ≡ short_key k)
        r = same_rows rows e k (omega (arith, (whole e i).size)) l (in-every all_bytes t.entries e i bytes) b (formed e i) f

    some_key : (stored (short_key k) t ≡ true) ↔ SameKey k t.entries
    unfolding stored
    some_key = (to, from)
      where
        to : some_of (has_key (short_key k)) t.entries ≡ true → SameKey k t.entries
        to h =
            let x = some_in (has_key (short_key k)) t.entries h in
            record { entry = x.0; member = x.1; same = (each-key x.0 x.1).0 x.2 }

        from : SameKey k t.entries → some_of (has_key (short_key k)) t.entries ≡ true
        from x = in_some (has_key (short_key k)) t.entries x.entry x.member ((each-key x.entry x.member).1 x.same)

  -- of a list of them with distinct keys
  numbers-once : (es : List (List ℕ)) → ((e : List ℕ) → In e es → In e t.entries) → Distinct es
      → Ordered (λ (x y : List ℕ). key_numbers x ≡ key_numbers y → ⊥) es
  unfolding stored
  numbers-once [] inside d = tt
  numbers-once (x ∷ es) inside d = (apart, numbers-once es (λ e i. inside e (inr i)) d.1)
    where
      i : In x t.entries
      i = inside x (inl refl)

      apart : (y : List ℕ) → In y es → key_numbers x ≡ key_numbers y → ⊥
      apart y j n =
          let b : all_bytes x ≡ true = in-every all_bytes t.entries x i bytes in
          let h = (each-key x (omega (arith, (whole x i).size)) b (formed x i) y (inside y (inr j))).1 (sym n) in
          contradiction (in_some (has_key (key_of x)) es y j (rw (stored-key x (whole x i)) h)) d.0

-- ---- 20 and 21

-- what is asked of an update after 15 to 19: whether it is an INSERT, its key is found, its table is full
abbrev late : Bool → Bool → Bool → List (Bool × ℕ)
late ins found full = (ins && found, 20) ∷ (not ins && not found, 21) ∷ (ins && full, 22) ∷ []

late-20 : (ins found full : Bool) → (first (late ins found full) ≡ 20) ↔ ((ins ≡ true) × (found ≡ true))
unfolding first
late-20 true true full = (λ e. (refl, refl), λ h. refl)
late-20 true false full = (λ e. absurd (first-avoids 20 ((full, 22) ∷ []) (omega arith) refl e), λ h. absurd (false≢true h.1))
late-20 false true full = (λ e. absurd (omega arith), λ h. absurd (false≢true h.0))
late-20 false false full = (λ e. absurd (omega arith), λ h. absurd (false≢true h.0))

late-21 : (ins found full : Bool) → (first (late ins found full) ≡ 21) ↔ ((ins ≡ false) × (found ≡ false))
unfolding first
late-21 true true full = (λ e. absurd (omega arith), λ h. absurd (true≢false h.0))
late-21 true false full = (λ e. absurd (first-avoids 21 ((full, 22) ∷ []) (omega arith) refl e), λ h. absurd (true≢false h.0))
late-21 false true full = (λ e. absurd (omega arith), λ h. absurd (true≢false h.1))
late-21 false false full = (λ e. (refl, refl), λ h. refl)

-- an update that none of 15 to 19 refuses: its key passed 17, and the late tests decide
decided : (rows : List Row) (role : ℕ) (t : Tables) (u : Update) → between 15 19 (judge rows role t u) ≡ false →
    let row = row_for (table_of u.entry) rows in
    (key_formed row u.entry ≡ true)
    × (judge rows role t u
    ≡ first (late (is_insert u.type) (stored (short_key u.entry) t) (leb row.size (held row.table t))))
unfolding judge judge_by entry_formed
decided rows role t u n = go (eqb (first early) 0) refl
  where
    e : List ℕ
    e = u.entry

    row : Row
    row = row_for (table_of e) rows

    early : List (Bool × ℕ)
    early =
        (not (between 1 3 u.type), 17)
        ∷ (not (known (table_of e) rows), 15)
        ∷ (not (may_write role row), 16)
        ∷ (not (entry_formed row u.type e), 17)
        ∷ (not (entry_fits row u.type e), 18)
        ∷ (not (key_rules row e), 19)
        ∷ []

    rest : List (Bool × ℕ)
    rest = late (is_insert u.type) (stored (short_key e) t) (leb row.size (held row.table t))

    parted : first (early ++ rest) ≡ (if eqb (first early) 0 then first rest else first early)
    parted = first_more early rest refl

    go : (b : Bool) → eqb (first early) 0 ≡ b → (key_formed row e ≡ true) × (first (early ++ rest) ≡ first rest)
    go true q =
        let c = first-clear early refl (eqb-true (first early) 0 q) in
        let f : key_formed row e && (is_delete u.type || action_formed row e) ≡ true = not-false _ c.1.1.1.0 in
        ((and-true (key_formed row e) (is_delete u.type || action_formed row e) f).0, parted ∙ (rw q))
    go false q =
        let w : first (early ++ rest) ≡ first early = parted ∙ (rw q) in
        contradiction (ap (between 15 19) w ∙ first_passes (between 15 19) early refl q) n

-- ---- an update of 220 bytes

compared : (p : History) (role : ℕ) (u : Update) → length u.entry ≡ 220 → all_bytes u.entry ≡ true
    → SoundTables p.control.rows (state_seen p).tables → AllStored (state_seen p).tables → Compared p role u
unfolding state_seen reason_at
compared p role u l b ok bytes = record {
  each = λ f. each-key rows t ok bytes e whole-key b f;
  in_place = λ x i. stored-compared x e (whole rows t ok bytes x i) whole-key;
  found = some;
  twenty = twenty;
  twenty-one = twenty-one;
}
  where
    e : List ℕ
    e = u.entry

    rows : List Row
    rows = p.control.rows

    t : Tables
    t = record { entries = present p.effects }

    whole-key : 148 ≤ length e
    whole-key = omega arith

    some : key_formed (row_for (table_of e) rows) e ≡ true → (stored (short_key e) t ≡ true) ↔ SameKey e t.entries
    some f = some_key rows t ok bytes e whole-key b f

    twenty : between 15 19 (judge rows role t u) ≡ false
        → (judge rows role t u ≡ 20) ↔ ((u.type ≡ 1) × SameKey e t.entries)
    twenty n =
        let d = decided rows role t u n in
        let r = late-20 (is_insert u.type) (stored (short_key e) t) _ in (
          λ q. let h = r.0 (sym d.1 ∙ q) in (eqb-true u.type 1 h.0, (some d.0).0 h.1),
          λ h. d.1 ∙ r.1 (eq-eqb u.type 1 h.0, (some d.0).1 h.1),
        )

    twenty-one : between 15 19 (judge rows role t u) ≡ false
        → (judge rows role t u ≡ 21) ↔ ((u.type ≡ 1 → ⊥) × (SameKey e t.entries → ⊥))
    twenty-one n =
        let d = decided rows role t u n in
        let r = late-21 (is_insert u.type) (stored (short_key e) t) _ in (
          λ q. let h = r.0 (sym d.1 ∙ q) in (eqb-false u.type 1 h.0, λ k. contradiction ((some d.0).1 k) h.1),
          λ h. d.1 ∙ r.1 (ne_eqb u.type 1 h.0, fails (stored (short_key e) t) (λ k. h.1 ((some d.0).0 k))),
        )

-- ---- the claim

-- the key of an accepted READ of one key passed 17
read-formed : (s : State) (q : Query) → table_of q.key ≡ q.table → q.only ≡ 1 → accepted s (on_tables (READ q)) ≡ true
    → key_formed (row_for (table_of q.key) s.control.rows) q.key ≡ true
unfolding refusal read_reason
read-formed s q here o a =
    let c = first-clear _ refl (eqb-true _ 0 a) in
    rw here (not-false _ (and-false _ _ c.1.1.1.1.1.0 (eq-eqb q.only 1 o)))

pub keys-as-numbers : KeysAsNumbers
unfolding history_of fresh state_seen batch
keys-as-numbers room device before c bs b = record {
  once = once;
  updates = updates;
  entries = entries;
  in_place = in_place;
  reads = reads;
}
  where
    p : History
    p = look_back (nothing device) (commands_of room before)

    rows : List Row
    rows = p.control.rows

    seen : run (fresh device) (commands_of room before) ≡ state_seen p
    seen = fresh-shows device (commands_of room before)

    ok : Sound (state_seen p)
    ok = subst Sound seen (sound room device before)

    bytes : AllStored (state_seen p).tables
    bytes = subst (λ s. AllStored s.tables) seen (run-bytes room (fresh device) before bs refl)

    -- after the earlier updates of a batch
    noted-sound : (role : ℕ) (us : List Update) → Whole us
        → SoundTables (with_updates p role us).control.rows (state_seen (with_updates p role us)).tables
    noted-sound role us w =
        rw (noted-control p role us, ← alone-shows p role us)
        (alone-sound rows ok.rows role (state_seen p).tables us w ok.tables)

    noted-bytes : (role : ℕ) (us : List Update) → every entry_of_bytes us ≡ true → AllStored (state_seen (with_updates p role us)).tables
    noted-bytes role us d =
        subst AllStored (alone-shows p role us) (alone-every all_bytes rows role (state_seen p).tables us (entries-bytes us d) bytes)

    es : List (List ℕ)
    es = (state_seen p).tables.entries

    once : Ordered (λ (x y : List ℕ). key_numbers x ≡ key_numbers y → ⊥) es
    once = numbers-once rows (state_seen p).tables ok.tables bytes es (λ e i. i) ok.tables.distinct

    updates : (h : Head) (atomicity : ℕ) (earlier : List Update) (u : Update) (later : List Update)
        → command_of room c ≡ on_tables (WRITE h atomicity (earlier ++ u ∷ later)) → Compared (with_updates p h.role earlier) h.role u
    updates h atomicity earlier u later e =
        let w = whole-place earlier u later (subst Formed e (call-formed room c)).1 in
        let d = every-split entry_of_bytes earlier (u ∷ later) (subst OfBytes e (call-bytes room c b)) in
        let own : all_bytes u.entry ≡ true = (and-true (entry_of_bytes u) (every entry_of_bytes later) d.1).0 in
        compared (with_updates p h.role earlier) h.role u w.1 own
        (noted-sound h.role earlier w.0) (noted-bytes h.role earlier d.0)

    entries : (h : Head) (earlier : List Update)
        → (batch_of (run (fresh device) (commands_of room before)) h 0 earlier).tables ≡ (state_seen (with_updates p h.role earlier)).tables
    entries h earlier = ap (λ s. (batch_of s h 0 earlier).tables) seen ∙ alone-shows p h.role earlier

    in_place : (q : Query) → command_of room c ≡ on_tables (READ q) → (e : List ℕ) → In e es
        → (same_key (key_of e) q.key ≡ true) ↔ (short_key e ≡ short_key q.key)
    in_place q is e i =
        stored-compared e q.key (whole rows (state_seen p).tables ok.tables bytes e i) (omega (arith, (subst Formed is (call-formed room c)).0))

    reads : (q : Query) → command_of room c ≡ on_tables (READ q) → q.only ≡ 1 → accepted (state_seen p) (on_tables (READ q)) ≡ true → (e : List ℕ)
        → In e (read_seen rows q es) ↔ (In e es × (key_numbers e ≡ key_numbers q.key))
    reads q is o a e = (to, from)
      where
        f : Formed (on_tables (READ q))
        f = subst Formed is (call-formed room c)

        has : List ℕ → Bool
        has = has_key (short_key q.key)

        same : (e : List ℕ) → In e es → (has e ≡ true) ↔ (key_numbers e ≡ key_numbers q.key)
        same =
            each-key rows (state_seen p).tables ok.tables bytes q.key (omega (arith, f.0))
            (subst OfBytes is (call-bytes room c b)) (read-formed (state_seen p) q f.1 o a)

        all : read_seen rows q es ≡ keep has es
        all = sym (shown-seen p q) ∙ one_key (state_seen p) q f ok a o

        to : In e (read_seen rows q es) → In e es × (key_numbers e ≡ key_numbers q.key)
        to i = let k = in-keep has es e (subst (In e) all i) in (k.0, (same e k.0).0 k.1)

        from : In e es × (key_numbers e ≡ key_numbers q.key) → In e (read_seen rows q es)
        from i = subst (In e) (sym all) (keep-in has es e i.0 ((same e i.0).1 i.1))
