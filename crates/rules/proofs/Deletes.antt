-- A DELETE needs only the key: what the rules and looking back ask of it they ask of its first 148 bytes. Assumes nothing.
use Rattle.std.specs.Prelude.{if◌then◌else◌}
use Prim.Native.Nat.{ℕ, suc}
use mathlib.Core.Path.{◌≡◌, refl, sym, ◌∙◌, ap, ap₂}
use mathlib.Core.Bool.{Bool, ◌&&◌, ◌||◌, not}
use mathlib.Core.Logic.{inl, inr}
use mathlib.Core.List.{List, [], ◌∷◌, ◌++◌, map}
use mathlib.Core.Option.{Option, none, some}
use lib.Dec.{eqb}
use lib.ListN.{length}
use Rattle.rules.specs.Bytes.{Pointwise}
use Rattle.rules.specs.Frame.{Update, Command}
use Rattle.rules.specs.Row.{Row}
use Rattle.rules.specs.Key.{table_of, key_formed, key_fits, key_rules, short_key, key_of}
use Rattle.rules.specs.Update.{Tables, entry_formed, entry_fits, judge, judge_by, perform, apply, Batch}
use Rattle.rules.specs.Update.{each_alone, one_further, failure, unless_failed, all_or_none, batch}
use Rattle.rules.specs.Answer.{Reply, reply_of}
use Rattle.rules.specs.Call.{State, write_reason, refusal, next_control, next_tables, next, head_reason, pair_of, plain, answer, reply}
use Rattle.rules.specs.LookBack.{Effect, History, state_seen, effect_of, reason_at, succeeds, with_update, with_updates, some_fails}
use Rattle.rules.specs.LookBack.{with_batch, effects_with, with_call, pairs_alone, pairs_rolled_back, pairs_seen, answer_seen, reply_seen}
use Rattle.rules.specs.Deletes.{SameDelete, Alike, AlikeCommands, KeyAlone}
use Rattle.rules.proofs.Shortest.{key-of-key, table-of-key, formed-of-key, fits-of-key, rules-of-key}

-- ---- two entries with one key

-- what depends on the 148 bytes of a key alone is the same of both
module _ {A : Type 0} (f : List ℕ → A) (in-key : (e : List ℕ) → f (key_of e) ≡ f e) where
  of-one-key : (d e : List ℕ) → key_of d ≡ key_of e → f d ≡ f e
  of-one-key d e k = sym (in-key d) ∙ ap f k ∙ in-key e

-- ---- one update

module _ (u v : Update) (s : SameDelete u v) where
  abbrev d : List ℕ
  d = u.entry

  abbrev e : List ℕ
  e = v.entry

  -- by one row
  judged-by : (is_known : Bool) (row : Row) (role : ℕ) (t : Tables) → judge_by is_known row role t u ≡ judge_by is_known row role t v
  unfolding judge_by entry_formed entry_fits
  judged-by is_known row role t =
      rw (
        s.one,
        s.other,
        of-one-key (key_formed row) (λ x. formed-of-key row x) d e s.key,
        of-one-key (key_fits row) (λ x. fits-of-key row x) d e s.key,
        of-one-key (key_rules row) (λ x. rules-of-key row x) d e s.key,
        of-one-key short_key key-of-key d e s.key,
      )

  same-reason : (rows : List Row) (role : ℕ) (t : Tables) → judge rows role t u ≡ judge rows role t v
  unfolding judge
  same-reason rows role t = rw (← of-one-key table_of table-of-key d e s.key) (judged-by _ _ role t)

  same_left : (t : Tables) → perform u t ≡ perform v t
  unfolding perform
  same_left t = rw (s.one, s.other, of-one-key short_key key-of-key d e s.key)

  same_effect : effect_of u ≡ effect_of v
  same_effect = rw (s.one, s.other, of-one-key short_key key-of-key d e s.key)

alike-reason : (rows : List Row) (role : ℕ) (t : Tables) (u v : Update) → Alike u v → judge rows role t u ≡ judge rows role t v
alike-reason rows role t u v (inl q) = ap (judge rows role t) q
alike-reason rows role t u v (inr s) = same-reason u v s rows role t

alike-left : (r : ℕ) (t : Tables) (u v : Update) → Alike u v → apply r u t ≡ apply r v t
unfolding apply
alike-left r t u v (inl q) = ap (λ (x : Update). apply r x t) q
alike-left r t u v (inr s) = ap (λ (x : Tables). if eqb r 0 then x else t) (same_left u v s t)

alike-effect : (u v : Update) → Alike u v → effect_of u ≡ effect_of v
alike-effect u v (inl q) = ap effect_of q
alike-effect u v (inr s) = same_effect u v s

-- ---- batches

module _ (rows : List Row) (role : ℕ) where
  -- both reason and tables of the first update
  judged-left : (t : Tables) (u v : Update) → Alike u v → apply (judge rows role t u) u t ≡ apply (judge rows role t v) v t
  judged-left t u v a = alike-left (judge rows role t u) t u v a ∙ ap (λ (r : ℕ). apply r v t) (alike-reason rows role t u v a)

  each-alone : (t : Tables) (us vs : List Update) → Pointwise Alike us vs → each_alone (judge rows role) t us ≡ each_alone (judge rows role) t vs
  unfolding each_alone
  each-alone t [] [] a = refl
  each-alone t [] (v ∷ vs) a = absurd a
  each-alone t (u ∷ us) [] a = absurd a
  each-alone t (u ∷ us) (v ∷ vs) a =
      let rest = each-alone (apply (judge rows role t u) u t) us vs a.1
      ∙ ap (λ (x : Tables). each_alone (judge rows role) x vs) (judged-left t u v a.0) in
      ap₂ (λ (r : ℕ) (b : Batch). record { tables = b.tables; reasons = r ∷ b.reasons }) (alike-reason rows role t u v a.0) rest

  one-failure : (t : Tables) (us vs : List Update) → Pointwise Alike us vs → failure (judge rows role) t us ≡ failure (judge rows role) t vs
  unfolding failure
  one-failure t [] [] a = refl
  one-failure t [] (v ∷ vs) a = absurd a
  one-failure t (u ∷ us) [] a = absurd a
  one-failure t (u ∷ us) (v ∷ vs) a =
      let rest = one-failure (apply (judge rows role t u) u t) us vs a.1
      ∙ ap (λ (x : Tables). failure (judge rows role) x vs) (judged-left t u v a.0) in
      ap₂ (λ (r : ℕ) (o : Option (ℕ × ℕ)). if eqb r 0 then one_further o else some (0, r)) (alike-reason rows role t u v a.0) rest

alike-length : (us vs : List Update) → Pointwise Alike us vs → length us ≡ length vs
alike-length [] [] a = refl
alike-length [] (v ∷ vs) a = absurd a
alike-length (u ∷ us) [] a = absurd a
alike-length (u ∷ us) (v ∷ vs) a = ap suc (alike-length us vs a.1)

alike-batch : (atomicity : ℕ) (rows : List Row) (role : ℕ) (t : Tables) (us vs : List Update) → Pointwise Alike us vs
    → batch atomicity (judge rows role) t us ≡ batch atomicity (judge rows role) t vs
unfolding batch all_or_none
alike-batch atomicity rows role t us vs a =
    ap₂ (λ (x y : Batch). if eqb atomicity 1 then x else y) whole (each-alone rows role t us vs a)
  where
    undone : (o : Option (ℕ × ℕ)) (b : Batch) → unless_failed o t us b ≡ unless_failed o t vs b
    undone none b = refl
    undone (some f) b = rw (alike-length us vs a)

    whole : unless_failed (failure (judge rows role) t us) t us (each_alone (judge rows role) t us)
        ≡ unless_failed (failure (judge rows role) t vs) t vs (each_alone (judge rows role) t vs)
    whole =
        undone (failure (judge rows role) t us) (each_alone (judge rows role) t us)
        ∙ ap₂ (λ (o : Option (ℕ × ℕ)) (b : Batch). unless_failed o t vs b) (one-failure rows role t us vs a) (each-alone rows role t us vs a)

-- ---- calls

module _ (s : State) where
  alike-answer : (c d : Command) → AlikeCommands c d → reply s c ≡ reply s d
  unfolding reply answer refusal
  alike-answer c d (inl q) = ap (λ (x : Command). reply_of (answer s x)) q
  alike-answer c d (inr w) =
      rw (w.one, w.other)
      (ap written (alike-batch w.atomicity s.control.rows w.head.role s.tables w.us w.vs w.updates))
    where
      refused : ℕ
      refused = write_reason s.control w.head w.atomicity

      written : Batch → Reply
      written b = reply_of (if eqb refused 0 then record { reason = head_reason b.reasons; records = map pair_of b.reasons } else plain refused)

  alike_next : (c d : Command) → AlikeCommands c d → next s c ≡ next s d
  unfolding next next_control next_tables refusal
  alike_next c d (inl q) = ap (next s) q
  alike_next c d (inr w) =
      rw (w.one, w.other)
      (ap left (alike-batch w.atomicity s.control.rows w.head.role s.tables w.us w.vs w.updates))
    where
      left : Batch → State
      left b = record { control = s.control; tables = if eqb (write_reason s.control w.head w.atomicity) 0 then b.tables else s.tables }

-- ---- looking back

module _ (role : ℕ) where
  same-reason-at : (p : History) (u v : Update) → Alike u v → reason_at p role u ≡ reason_at p role v
  unfolding reason_at
  same-reason-at p u v a = alike-reason p.control.rows role (state_seen p).tables u v a

  same_noted : (p : History) (u v : Update) → Alike u v → with_update p role u ≡ with_update p role v
  unfolding with_update succeeds
  same_noted p u v a =
      ap₂ (λ (r : ℕ) (f : Effect). record { control = p.control; effects = if eqb r 0 then p.effects ++ (f ∷ []) else p.effects })
      (same-reason-at p u v a) (alike-effect u v a)

  -- what is asked of a batch update by update is the same, where it is the same of one
  module _ {A : Type 0} (f : History → List Update → A) (g : History → Update → A → List Update → A)
      (step : (p : History) (u : Update) (us : List Update) → f p (u ∷ us) ≡ g p u (f (with_update p role u) us) us)
      (one : (p : History) (u v : Update) (x : A) (us vs : List Update) → Alike u v → Pointwise Alike us vs → g p u x us ≡ g p v x vs) where
    by-updates : (p : History) (us vs : List Update) → Pointwise Alike us vs → f p us ≡ f p vs
    by-updates p [] [] a = refl
    by-updates p [] (v ∷ vs) a = absurd a
    by-updates p (u ∷ us) [] a = absurd a
    by-updates p (u ∷ us) (v ∷ vs) a =
        let rest = by-updates (with_update p role u) us vs a.1 ∙ ap (λ (q : History). f q vs) (same_noted p u v a.0) in
        step p u us ∙ ap (λ (x : A). g p u x us) rest ∙ one p u v (f (with_update p role v) vs) us vs a.0 a.1 ∙ sym (step p v vs)

  noted-updates : (p : History) (us vs : List Update) → Pointwise Alike us vs → with_updates p role us ≡ with_updates p role vs
  unfolding with_updates
  noted-updates = by-updates (λ p us. with_updates p role us) (λ p u x us. x) (λ p u us. refl) (λ p u v x us vs a b. refl)

  some-fails : (p : History) (us vs : List Update) → Pointwise Alike us vs → some_fails p role us ≡ some_fails p role vs
  unfolding some_fails succeeds
  some-fails =
      by-updates (λ p us. some_fails p role us) (λ p u x us. not (succeeds p role u) || x) (λ p u us. refl)
      (λ p u v x us vs a b. ap (λ (r : ℕ). not (eqb r 0) || x) (same-reason-at p u v a))

  pairs-alone : (p : History) (us vs : List Update) → Pointwise Alike us vs → pairs_alone p role us ≡ pairs_alone p role vs
  unfolding pairs_alone
  pairs-alone =
      by-updates (λ p us. pairs_alone p role us) (λ p u x us. pair_of (reason_at p role u) ∷ x) (λ p u us. refl)
      (λ p u v x us vs a b. ap (λ (r : ℕ). pair_of r ∷ x) (same-reason-at p u v a))

  pairs-rolled-back : (p : History) (us vs : List Update) → Pointwise Alike us vs → pairs_rolled_back p role us ≡ pairs_rolled_back p role vs
  unfolding pairs_rolled_back succeeds
  pairs-rolled-back =
      by-updates (λ p us. pairs_rolled_back p role us)
      (λ p u x us. let r = reason_at p role u in if eqb r 0 then pair_of 25 ∷ x else pair_of r ∷ map (λ (v : Update). pair_of 25) us)
      (λ p u us. refl)
      (λ p u v x us vs a b.
      ap₂ (λ (r : ℕ) (l : List (List ℕ)). if eqb r 0 then pair_of 25 ∷ x else pair_of r ∷ l) (same-reason-at p u v a) (others us vs b))
    where
      others : (us vs : List Update) → Pointwise Alike us vs → map (λ (v : Update). pair_of 25) us ≡ map (λ (v : Update). pair_of 25) vs
      others [] [] b = refl
      others [] (v ∷ vs) b = absurd b
      others (u ∷ us) [] b = absurd b
      others (u ∷ us) (v ∷ vs) b = ap (λ (l : List (List ℕ)). pair_of 25 ∷ l) (others us vs b.1)

module _ (p : History) where
  alike-noted : (c d : Command) → AlikeCommands c d → with_call p c ≡ with_call p d
  unfolding with_call next_control effects_with with_batch refusal
  alike-noted c d (inl q) = ap (with_call p) q
  alike-noted c d (inr w) =
      rw (w.one, w.other)
      (ap₂ counted (some-fails w.head.role p w.us w.vs w.updates) (noted-updates w.head.role p w.us w.vs w.updates))
    where
      counted : Bool → History → History
      counted fails more = record {
        control = (state_seen p).control;
        effects =
            if eqb (write_reason (state_seen p).control w.head w.atomicity) 0
            then (if eqb w.atomicity 1 && fails then p else more).effects
            else p.effects;
      }

  alike-seen : (c d : Command) → AlikeCommands c d → reply_seen p c ≡ reply_seen p d
  unfolding reply_seen answer_seen pairs_seen refusal
  alike-seen c d (inl q) = ap (reply_seen p) q
  alike-seen c d (inr w) =
      rw (w.one, w.other)
      (ap₂ (λ (fails : Bool) (x : List (List ℕ) × List (List ℕ)). written fails x.0 x.1)
      (some-fails w.head.role p w.us w.vs w.updates)
      (ap₂ (λ (x y : List (List ℕ)). (x, y))
      (pairs-rolled-back w.head.role p w.us w.vs w.updates)
      (pairs-alone w.head.role p w.us w.vs w.updates)))
    where
      refused : ℕ
      refused = write_reason (state_seen p).control w.head w.atomicity

      written : Bool → List (List ℕ) → List (List ℕ) → Reply
      written fails undone alone =
          reply_of
          (if eqb refused 0
          then record { reason = if fails then 23 else 0; records = if eqb w.atomicity 1 && fails then undone else alone }
          else plain refused)

-- ---- the law

pub key-alone : KeyAlone
key-alone = record {
  reason = alike-reason;
  left = alike-left;
  batches = alike-batch;
  answers = alike-answer;
  states = alike_next;
  effects = alike-effect;
  histories = alike-noted;
  seen = alike-seen;
}
