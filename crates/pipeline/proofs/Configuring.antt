-- What a CONFIGURE leaves that nothing refuses.
-- Assumes nothing.
use Rattle.std.specs.Prelude.{if◌then◌else◌}
use Prim.Native.Nat.{ℕ, ◌*◌, ◌≤◌}
use mathlib.Core.Path.{◌≡◌, refl, ◌∙◌}
use mathlib.Core.Bool.{Bool, true, false, not}
use mathlib.Core.List.{List, [], ◌∷◌, ◌++◌, map}
use lib.ListN.{length}
use lib.Dec.{eqb, ltb}
use borrow.Author.Tests.{not-false}
use Rattle.rules.specs.Bytes.{parts}
use Rattle.rules.specs.Reason.{first}
use Rattle.rules.specs.Frame.{Head, CONFIGURE, row_size}
use Rattle.rules.specs.Streams as streams
use Rattle.rules.specs.Row as row
use Rattle.rules.specs.Call.{Control, configure_reason}
use Rattle.rows.specs.Meaning.{row_read, rows_of}
use Rattle.configuration.proofs.Configuration.{rows-allowed-held}
use Rattle.rules.specs.Update.{no_entries}
use Rattle.store.specs.Store.{tables_in}
use Rattle.pipeline.specs.declared.Configured.{Configured}
use Rattle.pipeline.specs.Pipeline.{CarriesOut}
use Rattle.rules.proofs.Orders.{first-clear, first_more}

module _ (c : Control) (h : Head) (rows : List (List ℕ)) where
  -- where nothing refuses a CONFIGURE, 14 does not
  pub rows-allowed : configure_reason c h rows ≡ 0 → row.configuration_allowed rows ≡ true
  unfolding configure_reason
  rows-allowed e = not-false (row.configuration_allowed rows) (first-clear _ refl e).1.1.1.1.0

-- and so its rows, as they are held, are in force, and no entry is stored
pub rows-configured : (h : Head) (t : ℕ) (b : List ℕ) {r : Configured} → row_size * t ≤ length b
    → rows_of r.configuration.rows ≡ map row_read (parts t row_size b) → ((store : List ℕ) → tables_in r.tables store ≡ no_entries)
    → CarriesOut (CONFIGURE h (parts t row_size b)) r
rows-configured h t b long read none =
    let rows = parts t row_size b in
    record {
      rows = λ s e. rw e (read ∙ rows-allowed-held t b long (rows-allowed s.control h rows e));
      tables = λ s e store. rw e (none store);
    }
