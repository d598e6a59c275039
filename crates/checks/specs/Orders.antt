-- 17, 18 and 19 of a whole entry, as INSERT and MODIFY are checked; and 19 of a key by its slots and its priority. Assumes nothing.
use Rattle.std.specs.Prelude.{Bool, ◌&&◌, List, ℕ}
use Rattle.rules.specs.Row.{Field, Row}
use Rattle.rules.specs.Key.{slot_rule, pairwise, priority_rule, key_formed, key_fits, key_rules, check_order}
use Rattle.rules.specs.Entry.{action_formed, action_fits}

abbrev pub whole_order : Row → List ℕ → List (Bool × ℕ)
whole_order row e = check_order (key_formed row e && action_formed row e) (key_fits row e && action_fits row e) (key_rules row e)

abbrev pub ruled : List Field → List (List ℕ) → ℕ → Bool
ruled fields slots priority = pairwise slot_rule fields slots && priority_rule fields priority
