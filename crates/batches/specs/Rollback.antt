-- The notes of a batch with atomicity 1, and what they undo (document 02, request Two). Assumes nothing.
use Rattle.std.specs.Prelude.{◌≡◌, List, [], ℕ, zero, suc, ◌≤◌, length, get_or, set, Result}
use Rattle.rules.specs.declared.Reason.{Reason}
use Rattle.store.specs.declared.Tables.{Tables}
use Rattle.store.specs.Store.{entries_in, Holds}
use Rattle.judging.specs.declared.Change.{Change}
use Rattle.changes.specs.Undo.{Note, note_of, noted, undone, Undoable, Undoing}

-- ---- the notes

-- note k of a log, with update k, each in bytes
abbrev pub note_at : ℕ → List (List ℕ) → List (List ℕ) → Note
note_at k log us = note_of (get_or log k []) (get_or us k [])

-- with atomicity 1 a log has room for n notes
abbrev pub NotesFit : ℕ → ℕ → List (List ℕ) → Type 0
NotesFit atomicity n log = atomicity ≡ 1 → n ≤ length log

-- what was judged is noted as note k of a log
abbrev pub NotedAt : ℕ → Result Change Reason → Tables → List ℕ → List (List ℕ) → List (List ℕ) → Type 0
NotedAt k v tables store log log' = log' ≡ set log k (noted v (entries_in tables store) (get_or log k []))

-- note k of a log is that of an update of 221 bytes, and undoing it brings the entries `after` the update back to es
pub record Noted (k : ℕ) (u : List ℕ) (es after : List (List ℕ)) (log log' : List (List ℕ)) : Type 0 where
  pub note : List ℕ
  pub bytes : log' ≡ set log k note
  pub undoing : Undoing (note_of note u) after es

-- undoing the first k updates by their notes, the last one first, brings the entries es back to goal
unfoldable pub Undoes : ℕ → List (List ℕ) → List (List ℕ) → List (List ℕ) → List (List ℕ) → Type 0
Undoes zero log us es goal = es ≡ goal
Undoes (suc k) log us es goal = Undoable (note_at k log us) (length es) × Undoes k log us (undone (note_at k log us) es) goal

-- and so it does to a store
abbrev pub RolledBack : ℕ → List (List ℕ) → List (List ℕ) → Tables → List ℕ → List ℕ → Tables → Type 0
RolledBack k log us tables before after left =
    (goal : List (List ℕ)) → Undoes k log us (entries_in tables before) goal → Holds before after left goal
