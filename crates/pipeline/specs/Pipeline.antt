-- What is promised of pipeline commands, in the rules' terms. Assumes nothing.
use Rattle.std.specs.Prelude.{◌≡◌, List, ℕ}
use Rattle.rules.specs.Frame.{PipelineCommand}
use Rattle.rules.specs.Update as rules
use Rattle.rules.specs.Call.{Control, State, pipeline_command}
use Rattle.rows.specs.Meaning.{rows_of}
use Rattle.store.specs.Store.{tables_in}
use Rattle.pipeline.specs.declared.Configured.{Configured}

-- r is the reason of the command x, whatever the tables hold
abbrev pub Refuses : Control → PipelineCommand → ℕ → Type 0
Refuses c x r = (t : rules.Tables) → (pipeline_command (record { control = c; tables = t }) x).reason ≡ r

-- r is what the command x leaves in each state in which nothing refuses it, over any store
pub record CarriesOut (x : PipelineCommand) (r : Configured) : Type 0 where
  pub rows : (s : State) → (pipeline_command s x).reason ≡ 0 → rows_of r.configuration.rows ≡ (pipeline_command s x).rows
  pub tables : (s : State) → (pipeline_command s x).reason ≡ 0 → (store : List ℕ) → tables_in r.tables store ≡ (pipeline_command s x).tables
