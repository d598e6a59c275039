-- What an update is judged to be, in the rules' terms. Assumes nothing.
use Rattle.std.specs.Prelude.{◌≡◌, Bool, true, false, List, ◌++◌, ℕ, ◌<◌, Option, Some, Result, Ok, Err}
use Rattle.rules.specs.Reason.{first}
use Rattle.rules.specs.Named.{number_of, reason_of}
use Rattle.rules.specs.declared.Reason.{Reason}
use Rattle.rules.specs.Frame.{update_of}
use Rattle.rules.specs.Row.{Row}
use Rattle.rules.specs.Key.{short_key}
use Rattle.rules.specs.Update as rules
use Rattle.rules.specs.Update.{is_insert, is_modify, place_order, Judge}
use Rattle.rules.specs.Full.{full_order, judge_full}
use Rattle.store.specs.declared.Tables.{Tables}
use Rattle.store.specs.Store.{tables_in, place}
use Rattle.judging.specs.declared.Change.{Change}
use Rattle.judging.specs.declared.Change.TheVariants.{Insert, Modify, Delete}

-- How the code judges: as the rules do, but for an INSERT that the rules let through and the store has no room for, which is refused
-- with 2. No list of calls leaves a record where that happens: wherever the tables are sound, code and rules judge alike
-- (rules/proofs/Full: batch-full).
abbrev pub judge_in : List Row → ℕ → Judge
judge_in rows role = judge_full 2 rows role

-- the reason that an update of 221 bytes is given, by the rows, the role and the tables
abbrev pub judged : List Row → ℕ → Tables → List ℕ → List ℕ → ℕ
judged rows role tables store u = judge_in rows role (tables_in tables store) (update_of u)

-- The number of what an update was judged to be: 0 of a change, and of a refusal, of any type R, the number that is given for it. With
-- `number_of` it is `reason_of` (proofs/Numbered).
abbrev pub numbered : {R : Type 0} → (R → ℕ) → Result Change R → ℕ
numbered number (Ok change) = 0
numbered number (Err r) = number r

-- What an update of a type with entry e, where es are stored, was judged to be is right: a refusal has a number other than 0, any change is
-- for the update's type and names the place of its key.
abbrev pub Justified : {R : Type 0} → (R → ℕ) → Result Change R → ℕ → List ℕ → List (List ℕ) → Type 0
Justified number (Err r) type e es = 0 < number r
Justified number (Ok Insert) type e es = is_insert type ≡ true
Justified number (Ok (Modify i)) type e es = (is_insert type ≡ false) × (is_modify type ≡ true) × (place (short_key e) es ≡ Some i)
Justified number (Ok (Delete i)) type e es = (is_insert type ≡ false) × (is_modify type ≡ false) × (place (short_key e) es ≡ Some i)

-- it can be carried out where so many entries are stored: there is room for one more, or the place is that of an entry; every refusal can be
abbrev pub Possible : {R : Type 0} → Result Change R → ℕ → Type 0
Possible (Err r) n = Unit {0}
Possible (Ok Insert) n = n < 256
Possible (Ok (Modify i)) n = i < n
Possible (Ok (Delete i)) n = i < n

-- what is asked of an update by what is stored: 20 to 22, and room for an INSERT
abbrev pub places_in : Row → ℕ → List ℕ → rules.Tables → List (Bool × ℕ)
places_in row type e t = place_order row type e t ++ full_order 2 type t

-- What an update of a type, of a table that the row describes, was judged to be is right of every entry e whose key was found so among es.
abbrev pub PlaceJudged : Result Change Reason → Option ℕ → Row → ℕ → List (List ℕ) → Type 0
PlaceJudged v found row type es =
    (e : List ℕ) → found ≡ place (short_key e) es
    → (reason_of v ≡ first (places_in row type e (record { entries = es }))) × Justified number_of v type e es
