-- What every list of calls leaves: the invariants of streams, rows and entries that the layers above rest on.
-- Assumes nothing.
use Rattle.std.specs.Prelude.{◌≡◌, true, false, List, [], ◌∷◌, ℕ, ◌≤◌, ◌<◌, length}
use Rattle.rules.specs.Bytes.{every}
use Rattle.rules.specs.Frame.{entry_size}
use Rattle.rules.specs.Streams.{bound, Streams, stream_at, mark_of}
use Rattle.rules.specs.Row.{Row, rows_allowed, known, row_for}
use Rattle.rules.specs.Key.{table_of, key_of}
use Rattle.rules.specs.Entry.{passes, short_entry}
use Rattle.rules.specs.Update.{Tables, stored, held}
use Rattle.rules.specs.Call.{State}

-- of streams and marks
pub record SoundStreams (e : Streams) : Type 0 where
  pub thirty_two : length e.streams ≡ 32
  pub eight : length e.marks ≡ 8
  -- no two open streams of a role hold one set id
  pub once : (r i a b : ℕ) → 0 < i → stream_at e a ≡ bound r i → stream_at e b ≡ bound r i → a ≡ b
  pub role : (a r i : ℕ) → stream_at e a ≡ bound r i → r ≤ 7
  -- and none is above the mark
  pub below : (a r i : ℕ) → stream_at e a ≡ bound r i → i ≤ mark_of e r

-- an entry as it is stored: 220 bytes, in shortest form
pub record Stored (e : List ℕ) : Type 0 where
  pub size : length e ≡ entry_size
  pub shortest : short_entry e ≡ e

abbrev pub EveryStored : List (List ℕ) → Type 0
EveryStored [] = Unit {0}
EveryStored (e ∷ es) = Stored e × EveryStored es

-- no two entries have one key
abbrev pub Distinct : List (List ℕ) → Type 0
Distinct [] = Unit {0}
Distinct (e ∷ es) = (stored (key_of e) (record { entries = es }) ≡ false) × Distinct es

-- no table holds more than its size
abbrev pub Within : List Row → Tables → Type 0
Within [] t = Unit {0}
Within (r ∷ rows) t = (held r.table t ≤ r.size) × Within rows t

-- of the entries under their rows
pub record SoundTables (rows : List Row) (t : Tables) : Type 0 where
  pub few : length t.entries ≤ 256
  pub shortest : EveryStored t.entries
  pub distinct : Distinct t.entries
  pub known-tables : every (λ (e : List ℕ). known (table_of e) rows) t.entries ≡ true
  pub within : Within rows t
  -- what is stored passes 17, 18 and 19 by the row in force of its table
  pub checked : every (λ (e : List ℕ). passes (row_for (table_of e) rows) e) t.entries ≡ true

pub record Sound (s : State) : Type 0 where
  pub streams : SoundStreams s.control.streams
  pub rows : rows_allowed s.control.rows ≡ true
  pub tables : SoundTables s.control.rows s.tables
