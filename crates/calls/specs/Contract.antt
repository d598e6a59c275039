-- The contract of a call, for any layout of the entries in the store: what is in memory before it, what is handed in, what comes back.
-- Assumes nothing.
use Rattle.std.specs.Prelude.{◌≡◌, false, List, ◌++◌, ℕ, length, drop}
use Rattle.rules.specs.Frame.{Command}
use Rattle.rules.specs.Update.{Tables}
use Rattle.rules.specs.Call.{Call, Control, State, fresh, accepted, command_of, next, reply}
use Rattle.rules.specs.Sound.{Sound}

-- ---- what a call is handed, and what comes back

-- What stays from one call to the next: the agent's record (of type A), and the store.
pub record Memory (A : Type 0) : Type 0 where
  pub agent : A
  pub store : List ℕ

-- What a call is handed beside it: a frame, and a buffer for the answer.
pub record Input : Type 0 where
  pub frame : List ℕ
  pub buffer : List ℕ

-- What comes back: the memory as the call leaves it, the reason, and the buffer with the answer in it.
pub record Result (A : Type 0) : Type 0 where
  pub memory : Memory A
  pub reason : ℕ
  pub answer : List ℕ

-- what the rules see of an input: the frame, and how long the buffer is
abbrev pub call_of : Input → Call
call_of i = record { frame = i.frame; buffer = length i.buffer }

-- the command that a call requests: of the store only the length matters to it
abbrev pub requested : {A : Type 0} → Memory A → Input → Command
requested m i = command_of (length m.store) (call_of i)

-- ---- layouts

-- A *layout* says what a memory means. The control (device id, streams and rows) is found from the record. Record and store together
-- hold the tables. That is a relation and not a function: where each table has a part of the store to itself, the order in which
-- entries of two tables were inserted cannot be found from the memory, and no answer depends on it. `used` is the parts of the store
-- that entries occupy.
pub record Layout (A : Type 0) : Type 1 where
  pub control : A → Control
  pub holds : Memory A → Tables → Type 0
  pub used : Memory A → List (List ℕ)

module _ {A : Type 0} (L : Layout A) where
  -- A memory *represents* a state of the rules.
  pub record Represents (m : Memory A) (s : State) : Type 0 where
    pub control : L.control m.agent ≡ s.control
    pub tables : L.holds m s.tables

  -- a fresh agent, with any store
  abbrev pub Fresh : ℕ → A → Type 0
  Fresh device a = (store : List ℕ) → Represents (record { agent = a; store = store }) (fresh device)

  -- What is outside of the parts used is free: the record and the used parts determine what a memory holds.
  abbrev pub FreeBytes : Type 0
  FreeBytes = (m n : Memory A) (t : Tables) → m.agent ≡ n.agent → L.used m ≡ L.used n → L.holds m t → L.holds n t

  -- ---- the contract

  -- The result r of a command c is correct, where the memory m represented the state s:
  pub record Correct (s : State) (c : Command) (m : Memory A) (buffer : List ℕ) (r : Result A) : Type 0 where
    -- record and store represent the rules' next state
    pub state : Represents r.memory (next s c)
    -- the reason returned is the rules'
    pub returned : r.reason ≡ (reply s c).returned
    -- the first bytes of the answer buffer are the rules' answer, and every other byte is as it was
    pub filled : r.answer ≡ (reply s c).written ++ drop (length (reply s c).written) buffer
    -- the store is as long as it was, and its bytes from 56,320 on are untouched
    pub room : length r.memory.store ≡ length m.store
    pub beyond : drop 56_320 r.memory.store ≡ drop 56_320 m.store
    -- a refused call changes no byte of the store
    pub untouched : accepted s c ≡ false → r.memory.store ≡ m.store

  -- The contract of a call. Whichever state the memory represents, of those that lists of calls come to (`Sound`), the result is
  -- correct in it.
  abbrev pub Contract : Memory A → Input → Result A → Type 0
  Contract m i r = (s : State) → Sound s → Represents m s → Correct s (requested m i) m i.buffer r
