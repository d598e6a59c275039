-- The full store (document 02, request Five: "Table sizes add up to at most 256, so 22 always comes first. Show that no list of calls
-- from a fresh agent reaches 24, then remove the number and its test. Answers to all lists are those given before."). The rules with 24,
-- as they were up to that request, are kept here, for what is claimed of them beside the rules without it. Assumes nothing.
use Rattle.std.specs.Prelude.{◌≡◌, Bool, true, ◌&&◌, List, [], ◌∷◌, ◌++◌, ℕ, ◌<◌, leb, length}
use Rattle.rules.specs.Bytes.{byte}
use Rattle.rules.specs.Reason.{first, pairs, code_in}
use Rattle.rules.specs.Frame.{Head, Update, TableCommand, WRITE, READ, Command, too_short, malformed, on_streams, on_pipeline, on_tables}
use Rattle.rules.specs.Row.{Row, known, row_for}
use Rattle.rules.specs.Key.{table_of}
use Rattle.rules.specs.Update.{Tables, Judge, is_insert, update_order, judge, each_alone, batch}
use Rattle.rules.specs.Answer.{Reply, reply_of}
use Rattle.rules.specs.Call.{Call, State, fresh, TableOutcome, write_batch, read, accepted, command_of, next, reply, run}
use Rattle.rules.specs.Agreement.{commands_of, reply_after, pair_at}

-- ---- judges that test for a full store

-- INSERT while the store holds 256 entries, refused under a reason that may be any. Document 01 has 24. The code has 2: it must not write
-- past the store whatever record it is handed, also one that no list of calls leaves (`judging`).
abbrev pub full_order : ℕ → ℕ → Tables → List (Bool × ℕ)
full_order reason type t = (is_insert type && leb 256 (length t.entries), reason) ∷ []

-- it comes last in the order of an update
unfoldable pub judge_full_by : ℕ → Bool → Row → ℕ → Judge
judge_full_by reason is_known row role t u = first (update_order is_known row role t u ++ full_order reason u.type t)

unfoldable pub judge_full : ℕ → List Row → ℕ → Judge
judge_full reason rows role t u = judge_full_by reason (known (table_of u.entry) rows) (row_for (table_of u.entry) rows) role t u

-- ---- the agent with 24 (8)

abbrev pub judge24 : List Row → ℕ → Judge
judge24 rows role = judge_full 24 rows role

abbrev pub pair24 : ℕ → List ℕ
pair24 reason = reason ∷ code_in ((24, 8) ∷ pairs) reason ∷ []

-- only a WRITE judges updates
abbrev pub table_command24 : State → TableCommand → TableOutcome
table_command24 s (WRITE h atomicity us) =
    write_batch pair24 s h atomicity (batch atomicity (judge24 s.control.rows h.role) s.tables us)
table_command24 s (READ q) = read s q

unfoldable pub next24 : State → Command → State
next24 s too_short = next s too_short
next24 s malformed = next s malformed
next24 s (on_streams x) = next s (on_streams x)
next24 s (on_pipeline x) = next s (on_pipeline x)
next24 s (on_tables x) = record { control = s.control; tables = (table_command24 s x).tables }

unfoldable pub reply24 : State → Command → Reply
reply24 s too_short = reply s too_short
reply24 s malformed = reply s malformed
reply24 s (on_streams x) = reply s (on_streams x)
reply24 s (on_pipeline x) = reply s (on_pipeline x)
reply24 s (on_tables x) = reply_of (table_command24 s x).answer

unfoldable pub run24 : State → List Command → State
run24 s [] = s
run24 s (c ∷ cs) = run24 (next24 s c) cs

-- that agent after the calls `before`, and what a call then returns and writes
abbrev pub after24 : ℕ → ℕ → List Call → State
after24 room device before = run24 (fresh device) (commands_of room before)

unfoldable pub reply_after24 : ℕ → ℕ → List Call → Call → Reply
reply_after24 room device before c = reply24 (after24 room device before) (command_of room c)

-- ---- the claim

-- Of an update u by a role: it is not refused with 24, and comes to the same reason without it.
pub record Unreached (rows : List Row) (role : ℕ) (t : Tables) (u : Update) : Type 0 where
  pub never : judge24 rows role t u ≡ 24 → ⊥
  pub same : judge24 rows role t u ≡ judge rows role t u

-- Of a call c after the calls `before`, from a fresh agent and with a store of `room` bytes:
pub record NoFullStore (room device : ℕ) (before : List Call) (c : Call) : Type 0 where
  -- so it is of every update of a WRITE, after the earlier ones of its batch (with atomicity 1 an update is judged where the earlier ones
  -- succeed, by the same tables).
  pub updates : (h : Head) (atomicity : ℕ) (earlier : List Update) (u : Update) (later : List Update)
      → command_of room c ≡ on_tables (WRITE h atomicity (earlier ++ u ∷ later)) →
      let rows = (after24 room device before).control.rows in
      let tables = (after24 room device before).tables in
      Unreached rows h.role (each_alone (judge24 rows h.role) tables earlier).tables u
  -- The call returns and writes the same with 24 and without it, and the agent before it is the same.
  pub replies : reply_after24 room device before c ≡ reply_after room device before c
  pub state : after24 room device before ≡ run (fresh device) (commands_of room before)
  -- The number is free: no call returns it, and no pair of an accepted WRITE has it.
  pub no-head : (reply_after room device before c).returned ≡ 24 → ⊥
  pub no-pair : (h : Head) (atomicity : ℕ) (us : List Update) → command_of room c ≡ on_tables (WRITE h atomicity us)
      → accepted (run (fresh device) (commands_of room before)) (command_of room c) ≡ true → (i : ℕ) → i < length us
      → byte 0 (pair_at i (reply_after room device before c).written) ≡ 24 → ⊥

-- after every list of calls, refused ones included
abbrev pub NeverFull : Type 0
NeverFull = (room device : ℕ) (before : List Call) (c : Call) → NoFullStore room device before c
