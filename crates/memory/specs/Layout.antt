-- What the agent's record and a store are in the rules' terms. Assumes nothing.
use Rattle.std.specs.Prelude.{◌≡◌, List, [], ◌∷◌, ℕ, ◌*◌, take}
use Rattle.rules.specs.Frame.{entry_size}
use Rattle.rules.specs.Update as rules
use Rattle.rules.specs.Call.{Control}
use Rattle.arbitration.specs.declared.Streams.{Streams}
use Rattle.arbitration.specs.Meaning.{streams_of}
use Rattle.rows.specs.Meaning.{rows_of}
use Rattle.store.specs.Store.{tables_in}
use Rattle.memory.specs.declared.Device.{Device}
use Rattle.memory.specs.declared.Configuration.{Configuration}
use Rattle.memory.specs.declared.Agent.{Agent}
use Rattle.calls.specs.Contract.{Memory, Input, Result, Layout}

-- the control that three parts of a record are
abbrev pub control_in : Device → Streams → Configuration → Control
control_in d e c = record { device = d.id; streams = streams_of e; rows = rows_of c.rows }

abbrev pub control_of : Agent → Control
control_of a = control_in a.device a.streams a.configuration

-- The flat layout: all entries from the first byte on, in order of insertion, so that a memory holds one list of them.
abbrev pub Flat : Layout Agent
Flat = record {
  control = control_of;
  holds = λ (m : Memory Agent) (t : rules.Tables). tables_in m.agent.tables m.store ≡ t;
  used = λ (m : Memory Agent). take (m.agent.tables.count * entry_size) m.store ∷ [];
}

-- what the code has in hand before a call and after it
abbrev pub memory : Agent → List ℕ → Memory Agent
memory a store = record { agent = a; store = store }

abbrev pub input : List ℕ → List ℕ → Input
input frame buffer = record { frame = frame; buffer = buffer }

abbrev pub outcome : Agent → ℕ → List ℕ → List ℕ → Result Agent
outcome a reason store answer = record { memory = memory a store; reason = reason; answer = answer }
