-- Demand 3, undivided: what is claimed of every list of calls (document 01, "Looking back"), for any layout of the store.
--
-- A list of calls starts from a fresh agent and a store of any length and content. Each call is handed a frame and an answer buffer,
-- which may be any, and gets the memory as the call before it left it. All that is asked of a call is that it meets the contract of
-- the function `call` (`Contract`), and the prover checks that the code always does. To read the claim, nothing more has to be known
-- of the contract or of the layout. It is stated from the frames and the lengths alone, in the words of the rules: accepted, took
-- effect, present, holds, highest. Assumes nothing.
use Rattle.std.specs.Prelude.{◌≡◌, true, ◌&&◌, ◌⊎◌, ◌↔◌, List, [], ◌∷◌, ◌++◌, map, ℕ, ◌+◌, ◌<◌, length, drop}
use Rattle.rules.specs.Bytes.{Pointwise, byte, int, bytes_of, concat}
use Rattle.rules.specs.Frame.{Head, Update, Query, Command, WRITE, READ, on_tables}
use Rattle.rules.specs.Call.{Call, State, accepted, next}
use Rattle.rules.specs.LookBack.{History, present, state_seen, took_effect, read_seen, reply_seen}
use Rattle.rules.specs.Agreement.{history_of, pair_at}
use Rattle.rules.specs.Presence.{Describes}
use Rattle.rules.specs.Authority.{Event, events_of, Gives, Held}
use Rattle.rules.specs.Sound.{Sound, EveryStored}
use Rattle.rules.specs.Deletes.{AlikeCommands}
use Rattle.rules.specs.Full.{reply_after24}
use Rattle.calls.specs.Contract.{Memory, Input, Result, call_of, requested, Layout, Represents, Fresh, Contract}

-- ---- lists of calls

-- A *step*: one call as it was made, what was handed in and what came back.
pub record Step (A : Type 0) : Type 0 where
  pub input : Input
  pub result : Result A

-- A *trace*: calls one after the other, from a memory; each gets the memory as the call before it left it.
unfoldable pub Trace : {A : Type 0} → Layout A → Memory A → List (Step A) → Type 0
Trace L m [] = Unit {0}
Trace L m (w ∷ ws) = Contract L m w.input w.result × Trace L w.result.memory ws

-- what the rules see of calls
abbrev pub calls_of : {A : Type 0} → List (Step A) → List Call
calls_of {A} ws = map (λ (w : Step A). call_of w.input) ws

-- Two calls are *answered alike*: they return and write the same.
abbrev pub AnsweredAlike : {A : Type 0} → Step A → Step A → Type 0
AnsweredAlike x y = (x.result.reason ≡ y.result.reason) × (x.result.answer ≡ y.result.answer)

-- Two calls *ask alike*, with stores as long as that of m: they are handed the same buffer, and differ in no more than action and
-- parameters of DELETEs.
abbrev pub AskAlike : {A : Type 0} → Memory A → Step A → Step A → Type 0
AskAlike m x y = (x.input.buffer ≡ y.input.buffer) × AlikeCommands (requested m x.input) (requested m y.input)

-- A place in a list: a call, and the calls before it and after it.
pub record Place {A : Type 0} (ws : List (Step A)) : Type 0 where
  pub before : List (Step A)
  pub call : Step A
  pub after : List (Step A)
  pub whole : ws ≡ before ++ call ∷ after

-- ---- a list, at each of its places

-- The calls ws, from a fresh agent of this device and the store in `start`.
module _ {A : Type 0} (L : Layout A) (device : ℕ) (start : Memory A) (ws : List (Step A)) where
  -- the command that the call at p requests
  abbrev pub command : Place ws → Command
  command p = requested start p.call.input

  -- what looking back over the calls before p yields: the history that they come to,
  abbrev pub history : Place ws → History
  history p = history_of (length start.store) device (calls_of p.before)

  -- and what each of them was, with the reason under which it was refused
  abbrev pub events : Place ws → List Event
  events p = events_of (length start.store) device (calls_of p.before)

  -- the entries present there, in their order
  abbrev pub entries : Place ws → List (List ℕ)
  entries p = present (history p).effects

  -- The call at p *changes no entry*: a READ x made in its stead, and the same READ y made after it, are answered alike.
  abbrev pub ChangesNoEntry : Place ws → Type 0
  ChangesNoEntry p =
      (q : Query) (x y : Step A) → requested start x.input ≡ on_tables (READ q) → y.input ≡ x.input
      → Trace L start (p.before ++ x ∷ []) → Trace L start (p.before ++ p.call ∷ y ∷ [])
      → AnsweredAlike x y

  -- What is claimed of the list: at each place p of it,
  pub record ListClaim : Type 0 where
    -- The call returns and writes what looking back yields, and touches no other byte of the buffer.
    pub returned : (p : Place ws) → p.call.result.reason ≡ (reply_seen (history p) (command p)).returned
    pub filled : (p : Place ws) → p.call.result.answer
        ≡ (reply_seen (history p) (command p)).written ++ drop (length (reply_seen (history p) (command p)).written) p.call.input.buffer
    -- 1. It returns reason 0 or 23 exactly when it is accepted.
    pub acceptance : (p : Place ws) → ((p.call.result.reason ≡ 0) ⊎ (p.call.result.reason ≡ 23))
        ↔ (accepted (state_seen (history p)) (command p) ≡ true)
    -- 2. An accepted READ answers reason 0, code 0, as count the number of present entries that it asks for, then these.
    pub reads : (p : Place ws) (q : Query) → command p ≡ on_tables (READ q) → accepted (state_seen (history p)) (command p) ≡ true →
        let found = read_seen (history p).control.rows q (entries p) in
        p.call.result.answer
        ≡ (0 ∷ 0 ∷ bytes_of 2 (length found) ++ concat found) ++ drop (4 + length (concat found)) p.call.input.buffer
    -- The entries present are those that document 01 describes, in its order; each is 220 bytes in shortest form.
    pub described : (p : Place ws) → Describes (history p).effects (entries p)
    pub shortest : (p : Place ws) → EveryStored (entries p)
    -- 3. An update of a WRITE is answered (0, 0), its pair being one of those that the answer counts, exactly when it took effect:
    -- the WRITE is accepted, and the update is refused under no reason after the updates before it (atomicity 0), or no update of
    -- the batch is, each judged after those before it (atomicity 1).
    pub updates : (p : Place ws) (h : Head) (atomicity : ℕ) (earlier : List Update) (u : Update) (later : List Update)
        → command p ≡ on_tables (WRITE h atomicity (earlier ++ u ∷ later)) →
        let answer = p.call.result.answer in
        ((length earlier < int 2 2 answer) × (pair_at (length earlier) answer ≡ 0 ∷ 0 ∷ []))
        ↔ (accepted (state_seen (history p)) (command p) && took_effect (history p) h.role atomicity earlier u later ≡ true)
    -- 4. An accepted CONFIGURE, and an accepted WRITE, which holds every update that takes effect, gave the highest id accepted
    -- until then for its role, while exactly one open stream of that role, the live primary, held it.
    pub authority : (p : Place ws) (role id : ℕ) → Gives role id (command p)
        → accepted (state_seen (history p)) (command p) ≡ true → Held role id (events p)
    -- 5. A call that gives no such id changes no entry.
    pub unchanged : (p : Place ws) → ((role id : ℕ) → Gives role id (command p) → Held role id (events p) → ⊥) → ChangesNoEntry p
    -- 6. A WRITE with atomicity 1 that was answered 23 changes no entry.
    pub rolled-back : (p : Place ws) (h : Head) (us : List Update) → command p ≡ on_tables (WRITE h 1 us) → p.call.result.reason ≡ 23
        → ChangesNoEntry p
    -- 7. It returns and writes what an agent does that still refuses an INSERT into a full store with 24 (document 02, request Five:
    -- "Answers to all lists are those given before"). The number is free: no call returns it, and no pair that the answer of a WRITE
    -- counts has it.
    pub full-store : (p : Place ws) →
        let old = reply_after24 (length start.store) device (calls_of p.before) (call_of p.call.input) in
        (p.call.result.reason ≡ old.returned)
        × (p.call.result.answer ≡ old.written ++ drop (length old.written) p.call.input.buffer)
    pub not-returned : (p : Place ws) → p.call.result.reason ≡ 24 → ⊥
    pub not-paired : (p : Place ws) (h : Head) (atomicity : ℕ) (us : List Update) → command p ≡ on_tables (WRITE h atomicity us) →
        let answer = p.call.result.answer in
        (i : ℕ) → i < int 2 2 answer → byte 0 (pair_at i answer) ≡ 24 → ⊥

-- ---- the claim

pub record Demand3 {A : Type 0} (L : Layout A) : Type 0 where
  -- Of every list of calls, from a fresh agent and any store.
  pub lists : (device : ℕ) (start : Memory A) → Fresh L device start.agent
      → (ws : List (Step A)) → Trace L start ws → ListClaim L device start ws
  -- Of two such lists that differ in no more than the action and parameters of DELETEs: call by call they are answered alike
  -- (document 02, request One).
  pub deletes : (device : ℕ) (start : Memory A) → Fresh L device start.agent
      → (ws xs : List (Step A)) → Trace L start ws → Trace L start xs
      → Pointwise (AskAlike start) ws xs → Pointwise AnsweredAlike ws xs
  -- No answer depends on free bytes: where two stores are as long and have the same bytes wherever entries are, a call with the same
  -- record returns and writes the same with either, and leaves both memories representing one state.
  pub free : (m n : Memory A) (i : Input) (x y : Result A) (s : State) → Sound s → Represents L m s
      → m.agent ≡ n.agent → length m.store ≡ length n.store → L.used m ≡ L.used n
      → Contract L m i x → Contract L n i y
      → (x.reason ≡ y.reason) × (x.answer ≡ y.answer)
      × Represents L x.memory (next s (requested m i)) × Represents L y.memory (next s (requested m i))
