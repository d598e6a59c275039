-- Who may change entries, read off a list of calls: the highest id, what each stream holds, and the live primary
-- (document 01, "Looking back"). Assumes nothing.
use Rattle.std.specs.Prelude.{◌≡◌, true, ◌&&◌, List, [], ◌∷◌, ℕ, ◌<◌, max, eqb, if◌then◌else◌}
use Rattle.rules.specs.Bytes.{between}
use Rattle.rules.specs.Frame.{Query, StreamEvent, OPEN, CLOSE, ARBITRATE, CONFIGURE, WRITE, READ}
use Rattle.rules.specs.Frame.{Command, too_short, malformed, on_streams, on_pipeline, on_tables}
use Rattle.rules.specs.Streams.{Stream, closed, unbound, bound}
use Rattle.rules.specs.Call.{Call, refusal, accepted, fresh, next, run, reply, command_of}
use Rattle.rules.specs.LookBack.{History, nothing, state_seen, with_call}
use Rattle.rules.specs.Agreement.{commands_of, history_of}

-- A call of the list, and the reason under which the rules refuse it after the calls before it (0: they accept it).
pub record Event : Type 0 where
  pub command : Command
  pub reason : ℕ

unfoldable pub events_from : History → List Command → List Event
events_from p [] = []
events_from p (c ∷ cs) = record { command = c; reason = refusal (state_seen p) c } ∷ events_from (with_call p c) cs

-- the calls `before`, from a fresh agent
unfoldable pub events_of : ℕ → ℕ → List Call → List Event
events_of room device before = events_from (nothing device) (commands_of room before)

-- ---- the highest id

-- the id that an ARBITRATE for the role gives; 0: unset, or no such call
abbrev pub event_id : ℕ → StreamEvent → ℕ
event_id role (OPEN n) = 0
event_id role (CLOSE n) = 0
event_id role (ARBITRATE n h) = if eqb h.role role then h.id else 0

abbrev pub id_for : ℕ → Command → ℕ
id_for role too_short = 0
id_for role malformed = 0
id_for role (on_streams x) = event_id role x
id_for role (on_pipeline x) = 0
id_for role (on_tables x) = 0

-- the highest id in any accepted ARBITRATE for the role, or 0
unfoldable pub highest : ℕ → List Event → ℕ
highest role [] = 0
highest role (e ∷ es) = max (if eqb e.reason 0 then id_for role e.command else 0) (highest role es)

-- ---- what a stream holds

-- what a call that got reason r leaves of stream s, which was x; an ARBITRATE refused under 5 to 9 closes its stream
abbrev pub event_leaves : ℕ → StreamEvent → ℕ → Stream → Stream
event_leaves s (OPEN n) r x = if eqb r 0 && eqb s n then unbound else x
event_leaves s (CLOSE n) r x = if eqb r 0 && eqb s n then closed else x
event_leaves s (ARBITRATE n h) r x =
    if eqb r 0 && eqb s n then bound h.role h.id else if between 5 9 r && eqb s n then closed else x

abbrev pub leaves : ℕ → Command → ℕ → Stream → Stream
leaves s too_short r x = x
leaves s malformed r x = x
leaves s (on_streams y) r x = event_leaves s y r x
leaves s (on_pipeline y) r x = x
leaves s (on_tables y) r x = x

-- A stream *holds* the id of its latest accepted ARBITRATE since it was last opened, while it stays open.
unfoldable pub holding : ℕ → Stream → List Event → Stream
holding s x [] = x
holding s x (e ∷ es) = holding s (leaves s e.command e.reason x) es

-- ---- the live primary

-- After these events the id is the highest accepted until then for the role, and exactly one open stream of the role holds it:
-- the *live primary*.
pub record Held (role id : ℕ) (events : List Event) : Type 0 where
  pub set : 0 < id
  pub top : id ≡ highest role events
  pub stream : ℕ
  pub holds : holding stream closed events ≡ bound role id
  pub only : (s : ℕ) → holding s closed events ≡ bound role id → s ≡ stream

-- the role and the id that a CONFIGURE or a WRITE gives
abbrev pub Gives : ℕ → ℕ → Command → Type 0
Gives role id too_short = ⊥
Gives role id malformed = ⊥
Gives role id (on_streams x) = ⊥
Gives role id (on_pipeline (CONFIGURE h rows)) = (h.role ≡ role) × (h.id ≡ id)
Gives role id (on_tables (WRITE h atomicity us)) = (h.role ≡ role) × (h.id ≡ id)
Gives role id (on_tables (READ q)) = ⊥

-- The law is the claim about lists of calls, `Demand3` (crate `calls`, specs/Claim.antt). This is a part of its proof, stated of the
-- rules alone: of a call c after the calls `before`, from a fresh agent and with a store of `room` bytes.
pub record Authority (room device : ℕ) (before : List Call) (c : Call) : Type 0 where
  -- an accepted CONFIGURE, and an accepted WRITE, which holds every update that takes effect, gave the live primary's id
  pub given : (role id : ℕ) → Gives role id (command_of room c)
      → accepted (state_seen (history_of room device before)) (command_of room c) ≡ true
      → Held role id (events_of room device before)
  -- a call that does not give it changes no entry: every READ has the same answer before it and after it
  pub unchanged : ((role id : ℕ) → Gives role id (command_of room c) → Held role id (events_of room device before) → ⊥)
      → (q : Query)
      → reply (run (fresh device) (commands_of room before)) (on_tables (READ q))
      ≡ reply (next (run (fresh device) (commands_of room before)) (command_of room c)) (on_tables (READ q))
