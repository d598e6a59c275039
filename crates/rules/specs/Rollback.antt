-- What a batch with atomicity 1 leaves and answers, beside the same batch with atomicity 0; and which updates of a batch looking
-- back counts (document 02, request Two). Assumes nothing.
use Rattle.std.specs.Prelude.{◌≡◌, Bool, true, List, [], ◌∷◌, ◌++◌, ℕ, eqb, length, replicate, if◌then◌else◌}
use Rattle.rules.specs.Bytes.{every}
use Rattle.rules.specs.Frame.{Head, Update, WRITE, on_tables}
use Rattle.rules.specs.Row.{Row}
use Rattle.rules.specs.Update.{Tables, judge, Batch, batch}
use Rattle.rules.specs.Call.{accepted, head_reason}
use Rattle.rules.specs.LookBack.{Effect, History, state_seen, effect_of, some_fails, took_effect, with_call}

-- of batches by a role under these rows, the tables before them being t
module _ (rows : List Row) (role : ℕ) (t : Tables) where
  abbrev pub alone : List Update → Batch
  alone us = batch 0 (judge rows role) t us

  abbrev pub atomic : List Update → Batch
  atomic us = batch 1 (judge rows role) t us

  abbrev pub none_fails : List Update → Bool
  none_fails us = every (eqb 0) (alone us).reasons

  pub record Rollback : Type 0 where
    -- where no update fails it leaves and answers what one with atomicity 0 does
    pub whole : (us : List Update) → none_fails us ≡ true → atomic us ≡ alone us
    -- Where u fails, judged as though the earlier ones had taken effect, and none of those does: the tables are those before the
    -- batch, u keeps its own reason, and every other update carries 25, whatever comes after u.
    pub stopped : (earlier : List Update) (u : Update) (later : List Update) → none_fails earlier ≡ true →
        let r = judge rows role (alone earlier).tables u in
        (r ≡ 0 → ⊥)
        → ((atomic (earlier ++ u ∷ later)).tables ≡ t)
        × ((atomic (earlier ++ u ∷ later)).reasons ≡ replicate (length earlier) 25 ++ r ∷ replicate (length later) 25)
    -- the head is 23 exactly where it is with atomicity 0, and then the tables are those before the batch
    pub head : (us : List Update) → head_reason (atomic us).reasons ≡ head_reason (alone us).reasons
    pub left : (us : List Update) → head_reason (atomic us).reasons ≡ 23 → (atomic us).tables ≡ t

-- the effects of those updates `us` of a batch that took effect, in order; `earlier` are the updates before them
unfoldable pub effects_of : History → ℕ → ℕ → List Update → List Update → List Effect
effects_of p role atomicity earlier [] = []
effects_of p role atomicity earlier (u ∷ us) =
    let rest = effects_of p role atomicity (earlier ++ (u ∷ [])) us in
    if took_effect p role atomicity earlier u us then effect_of u ∷ rest else rest

pub record Counted (p : History) (h : Head) (us : List Update) : Type 0 where
  -- looking back counts the updates of an accepted WRITE that took effect, and no other
  pub effects : (atomicity : ℕ) → accepted (state_seen p) (on_tables (WRITE h atomicity us)) ≡ true
      → (with_call p (on_tables (WRITE h atomicity us))).effects ≡ p.effects ++ effects_of p h.role atomicity [] us
  -- and of a batch that was rolled back none
  pub rolled-back : some_fails p h.role us ≡ true → (with_call p (on_tables (WRITE h 1 us))).effects ≡ p.effects
