-- What the functions behind a call are held to, and which parts of the record a group of commands changes. Assumes nothing.
use Rattle.std.specs.Prelude.{List, ℕ}
use Rattle.rules.specs.Frame.{Command}
use Rattle.rules.specs.Update as rules
use Rattle.rules.specs.Call.{State}
use Rattle.rules.specs.Sound.{Sound}
use Rattle.arbitration.specs.declared.Streams.{Streams}
use Rattle.store.specs.declared.Tables.{Tables}
use Rattle.memory.specs.declared.Configuration.{Configuration}
use Rattle.memory.specs.declared.Agent.{Agent}
use Rattle.calls.specs.Contract.{Memory, Result, Correct}
use Rattle.memory.specs.Layout.{control_of, Flat}

-- the state of an agent that holds the tables t
abbrev pub at_tables : Agent → rules.Tables → State
at_tables a t = record { control = control_of a; tables = t }

-- The *invariant*, which every list of calls leaves: the memory holds the tables t, which are sound under the record's rows.
pub record Invariant (m : Memory Agent) (t : rules.Tables) : Type 0 where
  pub holds : Flat.holds m t
  pub sound : Sound (at_tables m.agent t)

-- The result r of the command c, over the memory m and this answer buffer, is the one that the rules lay down, whichever tables m holds.
abbrev pub Handles : Memory Agent → Command → List ℕ → Result Agent → Type 0
Handles m c buffer r = (t : rules.Tables) → Invariant m t → Correct Flat (at_tables m.agent t) c m buffer r

-- ---- the record with the parts that a group may change

abbrev pub with_streams : Agent → Streams → Agent
with_streams a e = record { device = a.device; streams = e; configuration = a.configuration; tables = a.tables }

abbrev pub with_configuration : Agent → Configuration → Tables → Agent
with_configuration a c t = record { device = a.device; streams = a.streams; configuration = c; tables = t }

abbrev pub with_tables : Agent → Tables → Agent
with_tables a t = record { device = a.device; streams = a.streams; configuration = a.configuration; tables = t }
