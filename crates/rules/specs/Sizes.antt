-- How much of the answer is written (document 01, "Frames"). Assumes nothing.
use Rattle.std.specs.Prelude.{List, ℕ, ◌≤◌, length}
use Rattle.rules.specs.Call.{Call}
use Rattle.rules.specs.Agreement.{reply_after}

-- At most 56,324 bytes of the answer are written, by any call after any list of calls from a fresh agent.
abbrev pub AnswerFits : Type 0
AnswerFits = (room device : ℕ) (before : List Call) (c : Call) → length (reply_after room device before c).written ≤ 56_324
