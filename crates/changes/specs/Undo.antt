-- What is noted of an update before it is done, so that it can be undone (document 02, request Two), and what undoing it leaves.
-- Assumes nothing.
use Rattle.std.specs.Prelude.{◌≡◌, List, [], ◌∷◌, ◌++◌, ℕ, ◌-◌, ◌≤◌, ◌<◌, eqb, length, take, drop, get_or, if◌then◌else◌, Result, Ok, Err}
use Rattle.rules.specs.Frame.{key_size, update_size}
use Rattle.rules.specs.Bytes.{byte}
use Rattle.rules.specs.Key.{short_key}
use Rattle.store.specs.declared.Tables.{Tables}
use Rattle.store.specs.Store.{entries_in, inserted_at, changed_at, Holds}
use Rattle.judging.specs.Verdict.{numbered, Justified}
use Rattle.judging.specs.declared.Change.{Change}
use Rattle.judging.specs.declared.Change.TheVariants.{Insert, Modify, Delete}
use Rattle.changes.specs.Effect.{effect}

-- ---- a note

-- an INSERT; a MODIFY of the entry at a place, and its action and parameters as they were; a DELETE of the entry at a place, and
-- that entry as it was
pub data Note : Type 0 where
  Added : Note
  Changed : ℕ → List ℕ → Note
  Removed : ℕ → List ℕ → Note

-- A note in 74 bytes: type 1, place 1, action and parameters 72; an INSERT's place, action and parameters are not looked at. The key of
-- a deleted entry is not noted: it is the shortest form of the key of the update, whose 221 bytes are the second list.
unfoldable pub note_of : List ℕ → List ℕ → Note
note_of b u =
    if eqb (byte 0 b) 1 then Added else
    if eqb (byte 0 b) 2 then Changed (byte 1 b) (drop 2 b) else
    Removed (byte 1 b) (short_key (drop 1 u) ++ drop 2 b)

-- The bytes of a note after what was judged was noted over it, where es are stored. Of a refusal nothing is noted; of an INSERT its type.
abbrev pub noted : {R : Type 0} → Result Change R → List (List ℕ) → List ℕ → List ℕ
noted (Err r) es note = note
noted (Ok Insert) es note = 1 ∷ drop 1 note
noted (Ok (Modify i)) es note = 2 ∷ i ∷ drop key_size (get_or es i [])
noted (Ok (Delete i)) es note = 3 ∷ i ∷ drop key_size (get_or es i [])

-- ---- undoing it

-- the entries before an update, from those after it
abbrev pub undone : Note → List (List ℕ) → List (List ℕ)
undone Added es = take (length es - 1) es
undone (Changed i action) es = changed_at i action es
undone (Removed i old) es = inserted_at i old es

-- a note can be undone where so many entries are stored
abbrev pub Undoable : Note → ℕ → Type 0
Undoable Added count = 0 < count
Undoable (Changed i action) count = i < count
Undoable (Removed i old) count = (i ≤ count) × (count < 256)

-- what is left of a store by undoing it, a note in bytes with its update; one that cannot be undone changes nothing
abbrev pub Undone : List ℕ → List ℕ → Tables → List ℕ → List ℕ → Tables → Type 0
Undone note u tables before after left =
    (Undoable (note_of note u) tables.count → Holds before after left (undone (note_of note u) (entries_in tables before)))
    × ((Undoable (note_of note u) tables.count → ⊥) → (after ≡ before) × (left ≡ tables))

-- the entry that was deleted: its key is the update's in shortest form, its action and parameters were noted
abbrev pub deleted_entry : List ℕ → List ℕ → List ℕ
deleted_entry note u = short_key (drop 1 u) ++ drop 2 note

-- it is put back at place i
abbrev pub PutBack : ℕ → List ℕ → List ℕ → Tables → List ℕ → List ℕ → Tables → Type 0
PutBack i note u tables before after left = Holds before after left (inserted_at i (deleted_entry note u) (entries_in tables before))

-- undoing the note brings the entries back to es
pub record Undoing (note : Note) (after es : List (List ℕ)) : Type 0 where
  pub possible : Undoable note (length after)
  pub back : undone note after ≡ es

-- Undo after apply is the identity on entries: of every right judgement of an update of 221 bytes that takes effect, undoing what was
-- noted of it brings back the entries before it, each in its place. A refusal may be of any type, and has the number that is
-- given for it.
abbrev pub UndoAfterApply : {R : Type 0} → (R → ℕ) → Type 0
UndoAfterApply {R} number =
    (v : Result Change R) (type : ℕ) (u : List ℕ) (es : List (List ℕ)) (note : List ℕ)
    → length es ≤ 256 → length u ≡ update_size → numbered number v ≡ 0 → Justified number v type (drop 1 u) es
    → Undoing (note_of (noted v es note) u) (effect v (drop 1 u) es) es
