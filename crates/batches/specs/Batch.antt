-- What a batch of updates is held to, in the rules' terms. Assumes nothing.
use Rattle.std.specs.Prelude.{◌≡◌, not, List, map, ℕ, eqb}
use Rattle.rules.specs.Bytes.{every, concat}
use Rattle.rules.specs.Frame.{Update, update_of}
use Rattle.rules.specs.Row.{Row}
use Rattle.rules.specs.Update as rules
use Rattle.rules.specs.Call.{pair_of}
use Rattle.rules.specs.Sound.{Distinct}
use Rattle.buffers.specs.Splice.{splice}
use Rattle.store.specs.declared.Tables.{Tables}
use Rattle.store.specs.Store.{entries_in, tables_in, Holds}
use Rattle.judging.specs.Verdict.{judge_in}
use Rattle.batches.specs.declared.Written.{Written}

-- the updates of a batch, each from its 221 bytes
abbrev pub updates_in : List (List ℕ) → List Update
updates_in us = map update_of us

-- what updates come to by the atomicity, and by the tables before them, each judged as the code judges it (`judge_in`): wherever the
-- tables are sound, that is what the rules make of them
abbrev pub batch_in : ℕ → List Row → ℕ → List (List ℕ) → rules.Tables → rules.Batch
batch_in atomicity rows role us t = rules.batch atomicity (judge_in rows role) t (updates_in us)

-- the store holds what the batch leaves, in its order; free bytes may be any
pub record BatchApplied (b : rules.Batch) (before after : List ℕ) (w : Written) : Type 0 where
  pub failed : w.failed ≡ not (every (eqb 0) b.reasons)
  pub left : Holds before after w.tables b.tables.entries

-- Where keys are distinct, so much is left of a store by a batch b, and these pairs are written to the start of an answer.
abbrev pub StoreLeft : (rules.Tables → rules.Batch) → Tables → List ℕ → List ℕ → Written → Type 0
StoreLeft b tables before after w = Distinct (entries_in tables before) → BatchApplied (b (tables_in tables before)) before after w

abbrev pub Pairs : (rules.Tables → rules.Batch) → Tables → List ℕ → List ℕ → List ℕ → Type 0
Pairs b tables store before after =
    Distinct (entries_in tables store) → after ≡ splice before 0 (concat (map pair_of (b (tables_in tables store)).reasons))
