-- The rules agree with looking back: after every list of calls, refused ones included, each call answers what looking back over
-- the list yields (document 01, "Looking back"). Assumes nothing.
use Rattle.std.specs.Prelude.{◌≡◌, true, ◌⊎◌, ◌↔◌, List, [], ◌∷◌, ◌++◌, map, ℕ, ◌+◌, ◌*◌, length, take, drop}
use Rattle.rules.specs.Frame.{Head, Update, Query, Command, WRITE, READ, on_tables}
use Rattle.rules.specs.Answer.{Reply}
use Rattle.rules.specs.Call.{Call, fresh, accepted, command_of, next, reply, run}
use Rattle.rules.specs.LookBack.{History, nothing, state_seen, took_effect, look_back, reply_seen}

-- the commands of calls, with a store of `room` bytes
abbrev pub commands_of : ℕ → List Call → List Command
commands_of room calls = map (command_of room) calls

-- what a call returns and writes under the rules, and by looking back, after the calls `before` from a fresh agent
unfoldable pub reply_after : ℕ → ℕ → List Call → Call → Reply
reply_after room device before c = reply (run (fresh device) (commands_of room before)) (command_of room c)

unfoldable pub history_of : ℕ → ℕ → List Call → History
history_of room device before = look_back (nothing device) (commands_of room before)

-- the pair of the i-th update in an answer, counted from 0
unfoldable pub pair_at : ℕ → List ℕ → List ℕ
pair_at i bytes = take 2 (drop (4 + 2 * i) bytes)

-- The law is the claim about lists of calls, `Demand3` (crate `calls`, specs/Claim.antt). This is a part of its proof, stated of the
-- rules alone: of a call c after the calls `before`, from a fresh agent and with a store of `room` bytes.
pub record Agreement (room device : ℕ) (before : List Call) (c : Call) : Type 0 where
  -- the rules and looking back agree on what is returned, and on every byte written
  pub replies : reply_after room device before c ≡ reply_seen (history_of room device before) (command_of room c)
  -- reason 0 or 23 is returned exactly when the call is accepted by looking back
  pub acceptance : (((reply_after room device before c).returned ≡ 0) ⊎ ((reply_after room device before c).returned ≡ 23))
      ↔ (accepted (state_seen (history_of room device before)) (command_of room c) ≡ true)
  -- an update of an accepted WRITE is answered (0, 0) exactly when it took effect by looking back
  pub updates : (h : Head) (atomicity : ℕ) (earlier : List Update) (u : Update) (later : List Update)
      → command_of room c ≡ on_tables (WRITE h atomicity (earlier ++ u ∷ later))
      → accepted (state_seen (history_of room device before)) (command_of room c) ≡ true
      → (pair_at (length earlier) (reply_after room device before c).written ≡ 0 ∷ 0 ∷ [])
      ↔ (took_effect (history_of room device before) h.role atomicity earlier u later ≡ true)
  -- after a WRITE with atomicity 1 that returned 23 every READ has the answer that it had before it
  pub rolled-back : (h : Head) (us : List Update) → command_of room c ≡ on_tables (WRITE h 1 us) → (reply_after room device before c).returned ≡ 23
      → (q : Query)
      → reply (run (fresh device) (commands_of room before)) (on_tables (READ q))
      ≡ reply (next (run (fresh device) (commands_of room before)) (command_of room c)) (on_tables (READ q))
