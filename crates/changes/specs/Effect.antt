-- What doing what was judged does to the entries. Assumes nothing.
use Rattle.std.specs.Prelude.{List, [], ◌∷◌, ◌++◌, ℕ, drop, Result, Ok, Err}
use Rattle.rules.specs.Entry.{short_entry}
use Rattle.rules.specs.Bytes.{byte}
use Rattle.rules.specs.Frame.{key_size, update_of}
use Rattle.rules.specs.Update.{apply}
use Rattle.rules.specs.Sound.{Distinct}
use Rattle.store.specs.declared.Tables.{Tables}
use Rattle.store.specs.Store.{entries_in, tables_in, without, changed_at, Holds}
use Rattle.judging.specs.Verdict.{numbered, Justified}
use Rattle.judging.specs.declared.Change.{Change}
use Rattle.judging.specs.declared.Change.TheVariants.{Insert, Modify, Delete}

-- the entries after what was judged of an update with entry e; a refusal, of any type, leaves them as they are
abbrev pub effect : {R : Type 0} → Result Change R → List ℕ → List (List ℕ) → List (List ℕ)
effect (Err r) e es = es
effect (Ok Insert) e es = es ++ (short_entry e ∷ [])
effect (Ok (Modify i)) e es = changed_at i (drop key_size (short_entry e)) es
effect (Ok (Delete i)) e es = without i es

-- so much is left of a store by doing it
abbrev pub Done : {R : Type 0} → Result Change R → List ℕ → Tables → List ℕ → List ℕ → Tables → Type 0
Done v e tables before after left = Holds before after left (effect v e (entries_in tables before))

-- Which is what the rules leave, by a right judgement of an update of 221 bytes and where keys are distinct. A refusal has the number that
-- is given for it.
abbrev pub Ruled : {R : Type 0} → (R → ℕ) → Result Change R → List ℕ → Tables → List ℕ → List ℕ → Tables → Type 0
Ruled number v u tables before after left =
    Distinct (entries_in tables before) → Justified number v (byte 0 u) (drop 1 u) (entries_in tables before)
    → Holds before after left (apply (numbered number v) (update_of u) (tables_in tables before)).entries
