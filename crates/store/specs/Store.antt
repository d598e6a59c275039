-- The entries that a store holds, by what the record knows of it, and what a change leaves of it. Entries are from the first byte
-- in order of insertion (document 01, "Frames"). Assumes nothing.
use Rattle.std.specs.Prelude.{◌≡◌, false, List, [], ◌∷◌, ◌++◌, Option, Some, None, ℕ, suc, ◌+◌, ◌*◌, ◌≤◌, ◌<◌, eqb, length, take, drop, get_or, set, if◌then◌else◌}
use Rattle.rules.specs.Frame.{entry_size, key_size}
use Rattle.rules.specs.Bytes.{keep, part, parts}
use Rattle.buffers.specs.Word.{little_endian}
use Rattle.rules.specs.Key.{has_key}
use Rattle.rules.specs.Update as rules
use Rattle.store.specs.declared.Tables.{Tables}

-- the entries of a store
abbrev pub entries_in : Tables → List ℕ → List (List ℕ)
entries_in tables store = parts tables.count entry_size store

-- in the rules' terms
abbrev pub tables_in : Tables → List ℕ → rules.Tables
tables_in tables store = record { entries = entries_in tables store }

-- those of a table
abbrev pub entries_of : ℕ → Tables → List ℕ → List (List ℕ)
entries_of table tables store = keep (rules.in_table table) (entries_in tables store)

-- the store has the bytes of all its entries
abbrev pub InStore : Tables → List ℕ → Type 0
InStore tables store = entry_size * tables.count ≤ length store

-- the place of the first entry that has the key, counted from i
unfoldable pub place_from : ℕ → List ℕ → List (List ℕ) → Option ℕ
place_from i k [] = None
place_from i k (e ∷ es) = if has_key k e then Some i else place_from (suc i) k es

abbrev pub place : List ℕ → List (List ℕ) → Option ℕ
place k es = place_from 0 k es

-- Entries from `from` up to `next` were passed over: none has the word at the place in the bytes after its table.
pub record PassedOver (from next at word : ℕ) (entries : List (List ℕ)) : Type 0 where
  pub later : from ≤ next
  pub inside : next < length entries
  pub apart : (j : ℕ) → from ≤ j → j < next → eqb (little_endian (part (4 + at) 8 (get_or entries j []))) word ≡ false

-- a list without its element i
abbrev pub without : ℕ → List (List ℕ) → List (List ℕ)
without i es = take i es ++ drop (suc i) es

-- a list with an element put in before its element i, the opposite of `without`
abbrev pub inserted_at : ℕ → List ℕ → List (List ℕ) → List (List ℕ)
inserted_at i e es = take i es ++ (e ∷ drop i es)

-- a list whose element i has another action, with its parameters, after its key of 148 bytes
abbrev pub changed_at : ℕ → List ℕ → List (List ℕ) → List (List ℕ)
changed_at i action es = set es i (take key_size (get_or es i []) ++ action)

-- After a change the store holds these entries, 256 at most; it is as long as before, and its bytes from 56,320 on are untouched.
pub record Holds (before after : List ℕ) (tables : Tables) (entries : List (List ℕ)) : Type 0 where
  pub holds : entries_in tables after ≡ entries
  pub few : tables.count ≤ 256
  pub room : length after ≡ length before
  pub beyond : drop 56_320 after ≡ drop 56_320 before
