-- What one update of a batch is held to: its reason, what it leaves, and what is noted of it. Assumes nothing.
use Rattle.std.specs.Prelude.{◌≡◌, List, ℕ, ◌*◌, ◌≤◌, length, Result, Ok, Err}
use Rattle.rules.specs.declared.Reason.{Reason}
use Rattle.rules.specs.Named.{reason_of}
use Rattle.rules.specs.Frame.{update_of}
use Rattle.rules.specs.Row.{Row}
use Rattle.rules.specs.Update.{apply}
use Rattle.rules.specs.Sound.{Distinct}
use Rattle.rules.specs.Call.{pair_of}
use Rattle.buffers.specs.Splice.{splice}
use Rattle.store.specs.declared.Tables.{Tables}
use Rattle.store.specs.Store.{entries_in, tables_in, Holds}
use Rattle.judging.specs.Verdict.{judged}
use Rattle.batches.specs.Rollback.{Noted}

-- a store with no more entries than it has room for
abbrev pub Sized : Tables → List ℕ → Type 0
Sized tables store = (tables.count ≤ 256) × (56_320 ≤ length store)

-- what an update leaves of the tables: as they were where it was refused
abbrev pub left_of : Result Tables Reason → Tables → Tables
left_of (Ok left) tables = left
left_of (Err r) tables = tables

-- Update i of a batch, u, was taken: it was judged by the rows, its pair was written, and it took effect where its reason is 0; with
-- atomicity 1 it was then noted. An update that is refused changes nothing.
pub record Stepped (rows : List Row) (role atomicity i : ℕ) (u : List ℕ) (tables : Tables) (store store' : List ℕ) (log log' : List (List ℕ))
    (answer answer' : List ℕ) (r : Result Tables Reason) : Type 0 where
  pub reason : reason_of r ≡ judged rows role tables store u
  pub pair : answer' ≡ splice answer (2 * i) (pair_of (reason_of r))
  pub few : (left_of r tables).count ≤ 256
  pub left : Distinct (entries_in tables store)
      → Holds store store' (left_of r tables) (apply (reason_of r) (update_of u) (tables_in tables store)).entries
  pub noted : atomicity ≡ 1 → reason_of r ≡ 0 → Noted i u (entries_in tables store) (entries_in (left_of r tables) store') log log'
  pub refused : (reason_of r ≡ 0 → ⊥) → (store' ≡ store) × (left_of r tables ≡ tables) × (log' ≡ log)
