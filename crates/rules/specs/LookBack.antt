-- Looking back over a list of calls (document 01, "Looking back"): which entries are present after it, and what each call
-- answers, found from what took effect and not from what an agent stores.
-- Shared with the rules: the orders of refusals, what calls make of streams, marks and rows, and `judge` of one update. Defined
-- here, from the effects alone: the entries present, a batch, the pairs of a WRITE, the records of a READ. Assumes nothing.
use Rattle.std.specs.Prelude.{Bool, true, false, ◌&&◌, ◌||◌, not, List, [], ◌∷◌, ◌++◌, map, ℕ, eqb, if◌then◌else◌}
use Rattle.rules.specs.Bytes.{keep, same}
use Rattle.rules.specs.Frame.{Update, Query, CONFIGURE, WRITE, READ, Command, too_short, malformed, on_streams, on_pipeline, on_tables}
use Rattle.rules.specs.Row.{Row, may_write}
use Rattle.rules.specs.Key.{table_of, short_key, key_of}
use Rattle.rules.specs.Entry.{short_entry}
use Rattle.rules.specs.Update.{judge}
use Rattle.rules.specs.Answer.{Answer, Reply, reply_of}
use Rattle.rules.specs.Call.{Control, State, fresh, refusal, accepted, next_control, stream_event, event_answer, plain, pair_of}

-- ---- effects

-- What *took effect*: an INSERT or a MODIFY of an entry, a DELETE of a key, an accepted CONFIGURE. Shortest forms.
pub data Effect : Type 0 where
  inserted : List ℕ → Effect
  modified : List ℕ → Effect
  deleted : List ℕ → Effect
  cleared : Effect

-- whether an effect takes an entry away
unfoldable pub removes : Effect → List ℕ → Bool
removes (inserted x) e = false
removes (modified x) e = false
removes (deleted k) e = same k (key_of e)
removes cleared e = true

-- what an effect makes of an entry that it leaves
unfoldable pub revise : Effect → List ℕ → List ℕ
revise (inserted x) e = e
revise (modified x) e = if same (key_of x) (key_of e) then x else e
revise (deleted k) e = e
revise cleared e = e

-- an entry as later effects left it, and whether one of them took it away
unfoldable pub latest : List ℕ → List Effect → List ℕ
latest e [] = e
latest e (f ∷ later) = latest (revise f e) later

unfoldable pub gone : List ℕ → List Effect → Bool
gone e [] = false
gone e (f ∷ later) = removes f e || gone (revise f e) later

-- The entries *present* after effects, oldest first: those inserted and not taken away later, as they were left, in the order of
-- their INSERTs. (specs/Presence.antt says the same in document 01's sentences.)
unfoldable pub present : List Effect → List (List ℕ)
present [] = []
present (inserted e ∷ later) = if gone e later then present later else latest e later ∷ present later
present (modified e ∷ later) = present later
present (deleted k ∷ later) = present later
present (cleared ∷ later) = present later

-- ---- the history

-- What a list of calls comes to: streams, marks and rows as the rules make them, and what took effect, oldest first.
pub record History : Type 0 where
  pub control : Control
  pub effects : List Effect

unfoldable pub nothing : ℕ → History
nothing device = record { control = (fresh device).control; effects = [] }

-- the agent as looking back shows it: refusals and 20 to 22 are judged by this
unfoldable pub state_seen : History → State
state_seen p = record { control = p.control; tables = record { entries = present p.effects } }

-- what an update does where it takes effect; of a DELETE the key alone is noted
abbrev pub effect_of : Update → Effect
effect_of u =
    let e = short_entry u.entry in
    if eqb u.type 1 then inserted e else if eqb u.type 2 then modified e else deleted (short_key u.entry)

-- an update's reason after the history p, and whether it has none and so *succeeds*
unfoldable pub reason_at : History → ℕ → Update → ℕ
reason_at p role u = judge p.control.rows role (state_seen p).tables u

unfoldable pub succeeds : History → ℕ → Update → Bool
succeeds p role u = eqb (reason_at p role u) 0

-- the history with one more update, and with several: each is judged after those before it
unfoldable pub with_update : History → ℕ → Update → History
with_update p role u =
    record { control = p.control; effects = if succeeds p role u then p.effects ++ (effect_of u ∷ []) else p.effects }

unfoldable pub with_updates : History → ℕ → List Update → History
with_updates p role [] = p
with_updates p role (u ∷ us) = with_updates (with_update p role u) role us

-- an update of the batch fails, each judged after those before it
unfoldable pub some_fails : History → ℕ → List Update → Bool
some_fails p role [] = false
some_fails p role (u ∷ us) = not (succeeds p role u) || some_fails (with_update p role u) role us

-- An update u of a batch *took effect*: with atomicity 0 where it succeeds after the earlier ones, with atomicity 1 where no update
-- of the batch fails (document 02, request Two).
unfoldable pub took_effect : History → ℕ → ℕ → List Update → Update → List Update → Bool
took_effect p role atomicity earlier u later =
    if eqb atomicity 1 then not (some_fails p role (earlier ++ u ∷ later)) else succeeds (with_updates p role earlier) role u

-- a batch is rolled back; then no update of it is counted
abbrev pub rolls_back : History → ℕ → ℕ → List Update → Bool
rolls_back p role atomicity us = eqb atomicity 1 && some_fails p role us

unfoldable pub with_batch : History → ℕ → ℕ → List Update → History
with_batch p role atomicity us = if rolls_back p role atomicity us then p else with_updates p role us

-- what an accepted call adds to the effects
unfoldable pub effects_with : History → Command → List Effect
effects_with p too_short = p.effects
effects_with p malformed = p.effects
effects_with p (on_streams x) = p.effects
effects_with p (on_pipeline (CONFIGURE h rows)) = p.effects ++ (cleared ∷ [])
effects_with p (on_tables (WRITE h atomicity us)) = (with_batch p h.role atomicity us).effects
effects_with p (on_tables (READ q)) = p.effects

-- the history with one more call, and with a list of them, refused ones included
unfoldable pub with_call : History → Command → History
with_call p c = record {
  control = next_control (state_seen p) c;
  effects = if accepted (state_seen p) c then effects_with p c else p.effects;
}

unfoldable pub look_back : History → List Command → History
look_back p [] = p
look_back p (c ∷ cs) = look_back (with_call p c) cs

-- ---- what each call answers

-- the pairs of a batch that is not rolled back: each update after those before it
unfoldable pub pairs_alone : History → ℕ → List Update → List (List ℕ)
pairs_alone p role [] = []
pairs_alone p role (u ∷ us) = pair_of (reason_at p role u) ∷ pairs_alone (with_update p role u) role us

-- and of one that is: 25 for the updates that succeed, its own reason for the first that fails, 25 for all after that
unfoldable pub pairs_rolled_back : History → ℕ → List Update → List (List ℕ)
pairs_rolled_back p role [] = []
pairs_rolled_back p role (u ∷ us) =
    if succeeds p role u then pair_of 25 ∷ pairs_rolled_back (with_update p role u) role us else
    pair_of (reason_at p role u) ∷ map (λ (v : Update). pair_of 25) us

-- the pairs of a WRITE
unfoldable pub pairs_seen : History → ℕ → ℕ → List Update → List (List ℕ)
pairs_seen p role atomicity us = if rolls_back p role atomicity us then pairs_rolled_back p role us else pairs_alone p role us

abbrev pub named : Query → Bool
named q = not (eqb q.table 0)

-- A READ asks for an entry of a row: the table is the one named, or the role may write it where none is named; with only 1 the
-- key is the one given.
abbrev pub asks_for : Query → Row → List ℕ → Bool
asks_for q row e =
    ((named q && eqb row.table q.table) || (not (named q) && may_write q.role row))
    && eqb (table_of e) row.table
    && (not (eqb q.only 1) || same (key_of e) (short_key q.key))

-- the records of a READ: the present entries it asks for, tables following the configuration rows
unfoldable pub read_seen : List Row → Query → List (List ℕ) → List (List ℕ)
read_seen [] q es = []
read_seen (row ∷ rows) q es = keep (asks_for q row) es ++ read_seen rows q es

-- what a call after the history p answers
unfoldable pub answer_seen : History → Command → Answer
answer_seen p too_short = plain 2
answer_seen p malformed = plain 1
answer_seen p (on_streams x) = event_answer (stream_event (state_seen p) x)
answer_seen p (on_pipeline x) = plain (refusal (state_seen p) (on_pipeline x))
answer_seen p (on_tables (WRITE h atomicity us)) =
    if accepted (state_seen p) (on_tables (WRITE h atomicity us))
    then record { reason = if some_fails p h.role us then 23 else 0; records = pairs_seen p h.role atomicity us }
    else plain (refusal (state_seen p) (on_tables (WRITE h atomicity us)))
answer_seen p (on_tables (READ q)) =
    if accepted (state_seen p) (on_tables (READ q))
    then record { reason = 0; records = read_seen p.control.rows q (present p.effects) }
    else plain (refusal (state_seen p) (on_tables (READ q)))

unfoldable pub reply_seen : History → Command → Reply
reply_seen p c = reply_of (answer_seen p c)
