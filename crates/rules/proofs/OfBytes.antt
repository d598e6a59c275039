-- Calls whose frames are bytes leave entries that are bytes: shortening keeps bytes, and nothing is stored but shortest forms of
-- what was in a frame. Assumes nothing.
use Rattle.std.specs.Prelude.{if◌then◌else◌}
use Prim.Native.Nat.{ℕ, zero, suc, ◌-◌, ◌≤◌}
use mathlib.Core.Path.{◌≡◌, refl}
use mathlib.Core.Bool.{Bool, true, false}
use mathlib.Core.List.{List, [], ◌∷◌, ◌++◌, map}
use native.Mathlib.Omega.{arith}
use lib.Dec.{eqb, ltb}
use lib.ListN.{length, take, drop, replicate, length-take}
use borrow.Author.Tests.{lt-ltb}
use Rattle.rules.specs.Bytes.{every, concat, byte, part, parts, all_bytes}
use Rattle.rules.specs.Frame.{Update, Command, too_short, malformed, CONFIGURE, WRITE}
use Rattle.rules.specs.Frame.{READ, update_of, write_of, configure_of, read_frame, on_streams, on_pipeline, on_tables}
use Rattle.rules.specs.Value.{stripped, short}
use Rattle.rules.specs.Key.{value1, value2, slots, short_slot, short_key}
use Rattle.rules.specs.Entry.{parameters, short_entry}
use Rattle.rules.specs.Update.{Tables, no_entries, judge}
use Rattle.rules.specs.Call.{State, Call, refusal, accepted, batch_of, next_tables, next, command_of, run}
use Rattle.rules.specs.Agreement.{commands_of}
use Rattle.rules.specs.Keys.{of_bytes}
use Rattle.rules.proofs.Tests.{and-true, both_true, every_append, every_take, every_drop, every-part}
use Rattle.rules.proofs.Formed.{read-law, call-law}
use Rattle.rules.proofs.Shortest.{digits, digits-length, short-law}
use Rattle.rules.proofs.Tables.{alone-every}
use Rattle.rules.proofs.Rollback.{left-either}

abbrev pub is_byte : ℕ → Bool
is_byte b = ltb b 256

-- ---- shortest forms of bytes are bytes

byte-byte : (l : List ℕ) → all_bytes l ≡ true → is_byte (byte 0 l) ≡ true
byte-byte [] h = refl
byte-byte (x ∷ l) h = (and-true (is_byte x) (all_bytes l) h).0

stripped-bytes : (bs : List ℕ) → all_bytes bs ≡ true → all_bytes (stripped bs) ≡ true
stripped-bytes [] h = refl
stripped-bytes (b ∷ bs) h = go (eqb b 0) (stripped-bytes bs (and-true (is_byte b) (all_bytes bs) h).1)
  where
    go : (t : Bool) → all_bytes (stripped bs) ≡ true → all_bytes (if t then stripped bs else b ∷ bs) ≡ true
    go true ih = ih
    go false ih = h

zeros-bytes : (n : ℕ) → all_bytes (replicate n 0) ≡ true
zeros-bytes zero = refl
zeros-bytes (suc n) = zeros-bytes n

short-bytes : (v : List ℕ) → length v ≤ 17 → all_bytes v ≡ true → all_bytes (short v) ≡ true
short-bytes v h b =
    let bs : List ℕ = stripped (digits v) in
    let few : length bs ≤ 16 = digits-length v h in
    let d : all_bytes bs ≡ true = stripped-bytes (digits v) (every-part is_byte 1 (byte 0 v) v b) in
    short-law (λ x. all_bytes x ≡ true) v (λ z. b)
    (both_true (lt-ltb (length bs) 256 (omega arith)) (every_append is_byte bs (replicate (16 - length bs) 0) d (zeros-bytes (16 - length bs))))

-- n parts of at most w bytes, each replaced by bytes
parts-bytes : (f : List ℕ → List ℕ) (w : ℕ) → ((x : List ℕ) → length x ≤ w → all_bytes x ≡ true → all_bytes (f x) ≡ true)
    → (n : ℕ) (l : List ℕ) → all_bytes l ≡ true → all_bytes (concat (map f (parts n w l))) ≡ true
unfolding parts
parts-bytes f w k zero l h = refl
parts-bytes f w k (suc n) l h =
    every_append is_byte (f (take w l)) (concat (map f (parts n w (drop w l))))
    (k (take w l) (simp length-take (omega arith)) (every_take is_byte w l h))
    (parts-bytes f w k n (drop w l) (every_drop is_byte w l h))

slot-bytes : (s : List ℕ) → length s ≤ 35 → all_bytes s ≡ true → all_bytes (short_slot s) ≡ true
unfolding short_slot
slot-bytes s h b =
    both_true (byte-byte s b)
    (every_append is_byte (short (value1 s)) (short (value2 s))
    (short-bytes (value1 s) (simp length-take (omega arith)) (every-part is_byte 1 17 s b))
    (short-bytes (value2 s) (simp length-take (omega arith)) (every-part is_byte 18 17 s b)))

key-bytes : (k : List ℕ) → all_bytes k ≡ true → all_bytes (short_key k) ≡ true
unfolding short_key
key-bytes k b =
    every_append is_byte (part 0 8 k) (concat (map short_slot (slots k))) (every-part is_byte 0 8 k b)
    (parts-bytes short_slot 35 slot-bytes 4 (drop 8 k) (every_drop is_byte 8 k b))

entry-bytes : (e : List ℕ) → all_bytes e ≡ true → all_bytes (short_entry e) ≡ true
unfolding short_entry
entry-bytes e b =
    every_append is_byte (short_key e ++ part 148 4 e) (concat (map short (parameters e)))
    (every_append is_byte (short_key e) (part 148 4 e) (key-bytes e b) (every-part is_byte 148 4 e b))
    (parts-bytes short 17 short-bytes 4 (drop 152 e) (every_drop is_byte 152 e b))

-- ---- what a frame of bytes reads as, and what calls of bytes leave

abbrev pub entry_of_bytes : Update → Bool
entry_of_bytes u = all_bytes u.entry

-- entries and keys in a command are bytes
abbrev pub OfBytes : Command → Type 0
OfBytes too_short = Unit {0}
OfBytes malformed = Unit {0}
OfBytes (on_streams x) = Unit {0}
OfBytes (on_pipeline x) = Unit {0}
OfBytes (on_tables (WRITE h atomicity us)) = every entry_of_bytes us ≡ true
OfBytes (on_tables (READ q)) = all_bytes q.key ≡ true

updates-bytes : (n : ℕ) (l : List ℕ) → all_bytes l ≡ true → every entry_of_bytes (map update_of (parts n 221 l)) ≡ true
unfolding parts
updates-bytes zero l h = refl
updates-bytes (suc n) l h =
    both_true (every_drop is_byte 1 (take 221 l) (every_take is_byte 221 l h)) (updates-bytes n (drop 221 l) (every_drop is_byte 221 l h))

frame-bytes : (f : List ℕ) → all_bytes f ≡ true → OfBytes (read_frame f)
unfolding write_of configure_of
frame-bytes f h =
    read-law OfBytes f tt (λ _. (tt, tt)) (λ _. tt) (λ _. tt)
    (λ _. updates-bytes (byte 28 f) (drop 29 f) (every_drop is_byte 29 f h))
    (λ _. every_append is_byte (part 10 4 f) (part 15 144 f) (every-part is_byte 10 4 f h) (every-part is_byte 15 144 f h))

pub call-bytes : (room : ℕ) (c : Call) → of_bytes c ≡ true → OfBytes (command_of room c)
call-bytes room c h = call-law OfBytes room c tt (frame-bytes c.frame h)

pub entries-bytes : (us : List Update) → every entry_of_bytes us ≡ true → every (λ (u : Update). all_bytes (short_entry u.entry)) us ≡ true
entries-bytes [] h = refl
entries-bytes (u ∷ us) h =
    let g = and-true (entry_of_bytes u) (every entry_of_bytes us) h in
    both_true (entry-bytes u.entry g.0) (entries-bytes us g.1)

abbrev pub AllStored : Tables → Type 0
AllStored t = every all_bytes t.entries ≡ true

next-bytes : (s : State) (c : Command) → OfBytes c → AllStored s.tables → AllStored (next_tables s c)
unfolding next_tables refusal
next-bytes s too_short b h = h
next-bytes s malformed b h = h
next-bytes s (on_streams x) b h = h
next-bytes s (on_pipeline (CONFIGURE e rows)) b h = go (accepted s (on_pipeline (CONFIGURE e rows)))
  where
    go : (a : Bool) → AllStored (if a then no_entries else s.tables)
    go true = refl
    go false = h
next-bytes s (on_tables (WRITE e atomicity us)) b h = go (accepted s (on_tables (WRITE e atomicity us)))
  where
    go : (a : Bool) → AllStored (if a then (batch_of s e atomicity us).tables else s.tables)
    go true =
        left-either AllStored atomicity (judge s.control.rows e.role) s.tables us h
        (alone-every all_bytes s.control.rows e.role s.tables us (entries-bytes us b) h)
    go false = h
next-bytes s (on_tables (READ q)) b h = h

pub run-bytes : (room : ℕ) (s : State) (calls : List Call) → every of_bytes calls ≡ true → AllStored s.tables
    → AllStored (run s (commands_of room calls)).tables
unfolding run next
run-bytes room s [] b h = h
run-bytes room s (c ∷ calls) b h =
    let g = and-true (of_bytes c) (every of_bytes calls) b in
    run-bytes room (next s (command_of room c)) calls g.1 (next-bytes s (command_of room c) (call-bytes room c g.0) h)
