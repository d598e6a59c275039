-- Keys are compared as numbers: a key is table, priority and slots, values compared as numbers (document 01, "Configuration and
-- entries"). The rules compare shortest forms (`has_key`); what is claimed here is that this comes to the same.
-- Bytes are numbers below 256: of lists of other numbers nothing is claimed, and no frame is one. Assumes nothing.
use Rattle.std.specs.Prelude.{◌≡◌, Bool, true, false, ◌↔◌, List, ◌∷◌, ◌++◌, ℕ, length}
use Rattle.rules.specs.Bytes.{between, every, all_bytes}
use Rattle.rules.specs.Frame.{key_size, Head, Update, Query, WRITE, READ, on_tables}
use Rattle.rules.specs.Row.{Row, row_for}
use Rattle.rules.specs.Value.{value, is_value, short}
use Rattle.rules.specs.Key.{table_of, key_formed, short_key, key_numbers, key_of, has_key, same_key}
use Rattle.rules.specs.Update.{stored}
use Rattle.rules.specs.Call.{Call, fresh, accepted, batch_of, command_of, run}
use Rattle.rules.specs.LookBack.{History, present, state_seen, reason_at, with_updates, read_seen}
use Rattle.rules.specs.Agreement.{commands_of, history_of}
use Rattle.rules.specs.Presence.{In, Ordered}

-- ---- values and keys by themselves

-- Two values that are due stand for the same number exactly when their shortest forms are equal,
abbrev pub ValuesSame : Type 0
ValuesSame =
    (v w : List ℕ) → length v ≡ 17 → length w ≡ 17 → all_bytes v ≡ true → all_bytes w ≡ true → is_value v ≡ true → is_value w ≡ true
    → (value v ≡ value w) ↔ (short v ≡ short w)

-- and two keys that pass 17 by one row are the same exactly when their shortest forms are equal.
abbrev pub KeysSame : Type 0
KeysSame =
    (row : Row) (k j : List ℕ) → length k ≡ key_size → length j ≡ key_size → all_bytes k ≡ true → all_bytes j ≡ true
    → key_formed row k ≡ true → key_formed row j ≡ true → (key_numbers k ≡ key_numbers j) ↔ (short_key k ≡ short_key j)

-- ---- a key compared with a stored one where they are (document 02, request Four)

-- Of a stored key e and any key k:
pub record InPlace (e k : List ℕ) : Type 0 where
  -- The comparison says of any two keys what the rules ask of an entry that is stored.
  pub any : same_key e k ≡ has_key (short_key k) e
  -- What is stored is in shortest form. So "for keys that passed their checks it says yes exactly when their shortest forms are the same",
  pub shortest : short_key e ≡ e → (same_key e k ≡ true) ↔ (short_key e ≡ short_key k)
  -- and exactly when they are the same as numbers: document 01's key.
  pub numbers : (row : Row) → all_bytes e ≡ true → all_bytes k ≡ true → key_formed row e ≡ true → key_formed row k ≡ true
      → short_key e ≡ e → (same_key e k ≡ true) ↔ (key_numbers e ≡ key_numbers k)

abbrev pub KeysInPlace : Type 0
KeysInPlace = (e k : List ℕ) → length e ≡ key_size → length k ≡ key_size → InPlace e k

-- ---- an update after a list of calls, and after the earlier updates of its batch

-- an entry of a list has the key k, as numbers
pub record SameKey (k : List ℕ) (es : List (List ℕ)) : Type 0 where
  pub entry : List ℕ
  pub member : In entry es
  pub same : key_numbers entry ≡ key_numbers k

-- Of an update u by a role, after the history p:
pub record Compared (p : History) (role : ℕ) (u : Update) : Type 0 where
  -- Where its key passes 17 by the row in force, an entry has this key exactly when it has the same numbers,
  pub each : key_formed (row_for (table_of u.entry) p.control.rows) u.entry ≡ true
      → (e : List ℕ) → In e (present p.effects)
      → (has_key (short_key u.entry) e ≡ true) ↔ (key_numbers e ≡ key_numbers u.entry)
  -- The comparison of an entry's key with it where they are (request Four) says yes exactly when their shortest forms are the same,
  pub in_place : (e : List ℕ) → In e (present p.effects) → (same_key (key_of e) u.entry ≡ true) ↔ (short_key e ≡ short_key u.entry)
  -- and the key is found exactly when some entry has the same numbers.
  pub found : key_formed (row_for (table_of u.entry) p.control.rows) u.entry ≡ true
      → (stored (short_key u.entry) (state_seen p).tables ≡ true) ↔ SameKey u.entry (present p.effects)
  -- So where none of 15 to 19 refuses it: 20 is INSERT while an entry has the same numbers,
  pub twenty : between 15 19 (reason_at p role u) ≡ false
      → (reason_at p role u ≡ 20) ↔ ((u.type ≡ 1) × SameKey u.entry (present p.effects))
  -- and 21 is MODIFY or DELETE while none has.
  pub twenty-one : between 15 19 (reason_at p role u) ≡ false
      → (reason_at p role u ≡ 21) ↔ ((u.type ≡ 1 → ⊥) × (SameKey u.entry (present p.effects) → ⊥))

-- ---- the claim

-- Of a call c after the calls `before`, from a fresh agent and with a store of `room` bytes:
pub record KeysCompared (room device : ℕ) (before : List Call) (c : Call) : Type 0 where
  -- no two entries have the same numbers,
  pub once : Ordered (λ (x y : List ℕ). key_numbers x ≡ key_numbers y → ⊥) (present (history_of room device before).effects)
  -- every update of a WRITE is compared as numbers with what is present after the earlier ones,
  pub updates : (h : Head) (atomicity : ℕ) (earlier : List Update) (u : Update) (later : List Update)
      → command_of room c ≡ on_tables (WRITE h atomicity (earlier ++ u ∷ later))
      → Compared (with_updates (history_of room device before) h.role earlier) h.role u
  -- which is what the rules have stored then (with atomicity 1 an update is judged where the earlier ones succeed, by the same),
  pub entries : (h : Head) (earlier : List Update)
      → (batch_of (run (fresh device) (commands_of room before)) h 0 earlier).tables
      ≡ (state_seen (with_updates (history_of room device before) h.role earlier)).tables
  -- the key of a READ is compared with an entry's where they are as an update's is,
  pub in_place : (q : Query) → command_of room c ≡ on_tables (READ q) → (e : List ℕ) → In e (present (history_of room device before).effects)
      → (same_key (key_of e) q.key ≡ true) ↔ (short_key e ≡ short_key q.key)
  -- and an accepted READ of one key shows exactly the entries that have the same numbers.
  pub reads : (q : Query) → command_of room c ≡ on_tables (READ q) → q.only ≡ 1
      → accepted (state_seen (history_of room device before)) (on_tables (READ q)) ≡ true
      → (e : List ℕ) →
      let p = history_of room device before in
      In e (read_seen p.control.rows q (present p.effects))
      ↔ (In e (present p.effects) × (key_numbers e ≡ key_numbers q.key))

-- a frame of bytes
abbrev pub of_bytes : Call → Bool
of_bytes c = all_bytes c.frame

-- so after every list of calls, refused ones included
abbrev pub KeysAsNumbers : Type 0
KeysAsNumbers =
    (room device : ℕ) (before : List Call) (c : Call) → every of_bytes before ≡ true → of_bytes c ≡ true
    → KeysCompared room device before c
