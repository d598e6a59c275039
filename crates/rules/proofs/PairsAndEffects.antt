-- The pairs of a WRITE: an update has (0, 0) exactly when it took effect, and looking back counts exactly those updates.
-- Assumes nothing.
use Rattle.std.specs.Prelude.{if◌then◌else◌}
use Prim.Native.Nat.{ℕ, suc, ◌+◌, ◌*◌}
use mathlib.Core.Path.{◌≡◌, refl, sym, ◌∙◌, ap, ap₂}
use mathlib.Core.Bool.{Bool, true, false, ◌&&◌, not, false≢true}
use mathlib.Core.Logic.{◌↔◌}
use mathlib.Core.List.{List, [], ◌∷◌, ◌++◌, map, append_assoc, append-nil}
use native.Mathlib.Omega.{arith}
use lib.Dec.{eqb}
use lib.ListN.{length}
use lib.Seq.{drop_at}
use borrow.Author.Tests.{eqb-true, eqb-false, eq-eqb, not-false}
use Rattle.rules.specs.Bytes.{concat, bytes_of}
use Rattle.rules.specs.Reason.{code_of, pairs}
use Rattle.rules.specs.Frame.{Head, Update, WRITE, on_tables}
use Rattle.rules.specs.Answer.{answer_bytes, reply_of}
use Rattle.rules.specs.Call.{accepted, pair_of}
use Rattle.rules.specs.LookBack.{Effect, History, state_seen, effect_of, reason_at, succeeds, with_update, with_updates, some_fails, took_effect}
use Rattle.rules.specs.LookBack.{rolls_back, with_batch, effects_with, with_call, pairs_alone, pairs_rolled_back, pairs_seen, answer_seen, reply_seen}
use Rattle.rules.specs.Agreement.{pair_at}
use Rattle.rules.specs.Rollback.{effects_of, Counted}
use Rattle.rules.proofs.Tests.{or-false}
use Rattle.rules.proofs.Lists.{concat-append}

-- ---- the pairs of a WRITE

-- after n pairs comes that of reason r
pub record PairAt (l : List (List ℕ)) (n r : ℕ) : Type 0 where
  pub before : List (List ℕ)
  pub after : List (List ℕ)
  pub place : l ≡ before ++ pair_of r ∷ after
  pub long : length (concat before) ≡ 2 * n

pair-first : (l : List (List ℕ)) (r : ℕ) → PairAt (pair_of r ∷ l) 0 r
pair-first l r = record { before = []; after = l; place = refl; long = refl }

pair-next : (l : List (List ℕ)) (n r x : ℕ) → PairAt l n r → PairAt (pair_of x ∷ l) (suc n) r
pair-next l n r x a = record {
  before = pair_of x ∷ a.before;
  after = a.after;
  place = ap (λ m. pair_of x ∷ m) a.place;
  long = omega (arith, a.long);
}

module _ (role : ℕ) where
  kept_at : (p : History) (earlier : List Update) (u : Update) (later : List Update)
      → PairAt (pairs_alone p role (earlier ++ u ∷ later)) (length earlier) (reason_at (with_updates p role earlier) role u)
  unfolding pairs_alone with_updates
  kept_at p [] u later = pair-first _ _
  kept_at p (v ∷ earlier) u later = pair-next _ _ _ _ (kept_at (with_update p role v) earlier u later)

  all-at : (earlier : List Update) (u : Update) (later : List Update)
      → PairAt (map (λ (v : Update). pair_of 25) (earlier ++ u ∷ later)) (length earlier) 25
  all-at [] u later = pair-first _ _
  all-at (v ∷ earlier) u later = pair-next _ _ _ _ (all-at earlier u later)

  -- no update of a batch that is rolled back has the pair (0, 0)
  undone-at : (p : History) (earlier : List Update) (u : Update) (later : List Update)
      → (r : ℕ) × (r ≡ 0 → ⊥) × PairAt (pairs_rolled_back p role (earlier ++ u ∷ later)) (length earlier) r
  unfolding pairs_rolled_back succeeds
  undone-at p [] u later = go (eqb (reason_at p role u) 0) refl
    where
      go : (b : Bool) → eqb (reason_at p role u) 0 ≡ b
          → (r : ℕ) × (r ≡ 0 → ⊥)
          × PairAt
          (if b then pair_of 25 ∷ pairs_rolled_back (with_update p role u) role later
          else pair_of (reason_at p role u) ∷ map (λ (v : Update). pair_of 25) later)
          0 r
      go true e = (25, λ z. let w : ◌≡◌ {A = ℕ} 25 0 = z in omega arith, pair-first _ _)
      go false e = (reason_at p role u, eqb-false _ 0 e, pair-first _ _)
  undone-at p (v ∷ earlier) u later = go (eqb (reason_at p role v) 0) (undone-at (with_update p role v) earlier u later)
    where
      us : List Update
      us = earlier ++ u ∷ later

      go : (b : Bool) → (r : ℕ) × (r ≡ 0 → ⊥) × PairAt (pairs_rolled_back (with_update p role v) role us) (length earlier) r
          → (r : ℕ) × (r ≡ 0 → ⊥)
          × PairAt
          (if b then pair_of 25 ∷ pairs_rolled_back (with_update p role v) role us else pair_of (reason_at p role v) ∷ map (λ (w : Update). pair_of 25) us)
          (suc (length earlier)) r
      go true h = (h.0, h.1, pair-next _ _ _ _ h.2)
      go false h = (25, λ z. let w : ◌≡◌ {A = ℕ} 25 0 = z in omega arith, pair-next _ _ _ _ (all-at earlier u later))

  -- where none fails, each succeeds
  none-fails : (p : History) (earlier : List Update) (u : Update) (later : List Update) → some_fails p role (earlier ++ u ∷ later) ≡ false
      → succeeds (with_updates p role earlier) role u ≡ true
  unfolding some_fails with_updates
  none-fails p [] u later e = not-false _ (or-false (not (succeeds p role u)) _ e).0
  none-fails p (v ∷ earlier) u later e = none-fails (with_update p role v) earlier u later (or-false (not (succeeds p role v)) _ e).1

  -- its reason is 0 exactly when the update took effect
  pub seen_at : (p : History) (atomicity : ℕ) (earlier : List Update) (u : Update) (later : List Update)
      → (r : ℕ) × ((r ≡ 0) ↔ (took_effect p role atomicity earlier u later ≡ true))
      × PairAt (pairs_seen p role atomicity (earlier ++ u ∷ later)) (length earlier) r
  unfolding pairs_seen took_effect succeeds
  seen_at p atomicity earlier u later = go (eqb atomicity 1) (some_fails p role us) refl
    where
      us : List Update
      us = earlier ++ u ∷ later

      own : ℕ
      own = reason_at (with_updates p role earlier) role u

      go : (b c : Bool) → some_fails p role us ≡ c
          → (r : ℕ) × ((r ≡ 0) ↔ ((if b then not c else eqb own 0) ≡ true))
          × PairAt (if b && c then pairs_rolled_back p role us else pairs_alone p role us) (length earlier) r
      go true true e =
          let h = undone-at p earlier u later in
          (h.0, (λ z. absurd (h.1 z), λ z. absurd (false≢true z)), h.2)
      go true false e = (own, (λ z. refl, λ z. eqb-true own 0 (none-fails p earlier u later e)), kept_at p earlier u later)
      go false c e = (own, (λ z. eq-eqb own 0 z, λ z. eqb-true own 0 z), kept_at p earlier u later)

  -- two bytes for each update
  kept-length : (p : History) (us : List Update) → length (concat (pairs_alone p role us)) ≡ 2 * length us
  unfolding pairs_alone
  kept-length p [] = refl
  kept-length p (u ∷ us) = omega (arith, kept-length (with_update p role u) us)

  all-length : (us : List Update) → length (concat (map (λ (v : Update). pair_of 25) us)) ≡ 2 * length us
  all-length [] = refl
  all-length (u ∷ us) = omega (arith, all-length us)

  undone-length : (p : History) (us : List Update) → length (concat (pairs_rolled_back p role us)) ≡ 2 * length us
  unfolding pairs_rolled_back
  undone-length p [] = refl
  undone-length p (u ∷ us) = go (succeeds p role u) (undone-length (with_update p role u) us)
    where
      go : (b : Bool) → length (concat (pairs_rolled_back (with_update p role u) role us)) ≡ 2 * length us
          → length (concat
          (if b then pair_of 25 ∷ pairs_rolled_back (with_update p role u) role us else pair_of (reason_at p role u) ∷ map (λ (v : Update). pair_of 25) us))
          ≡ 2 * suc (length us)
      go true h = omega (arith, h)
      go false h = omega (arith, all-length us)

  pub pairs-length : (p : History) (atomicity : ℕ) (us : List Update) → length (concat (pairs_seen p role atomicity us)) ≡ 2 * length us
  unfolding pairs_seen
  pairs-length p atomicity us = go (rolls_back p role atomicity us)
    where
      go : (b : Bool) → length (concat (if b then pairs_rolled_back p role us else pairs_alone p role us)) ≡ 2 * length us
      go true = undone-length p us
      go false = kept-length p us

-- the pair after a head of four bytes and n pairs
pair-there : (a b c d n r : ℕ) (l : List (List ℕ)) → PairAt l n r → pair_at n (a ∷ b ∷ c ∷ d ∷ concat l) ≡ pair_of r
unfolding pair_at
pair-there a b c d n r l s =
    let e : length (concat s.before) ≡ 2 * n = s.long in
    let first : List ℕ = a ∷ b ∷ c ∷ d ∷ concat s.before in
    rw (s.place, concat-append s.before (pair_of r ∷ s.after), drop_at first (concat (pair_of r ∷ s.after)) (4 + 2 * n) (omega arith))

pub pair-zero : (r : ℕ) → (pair_of r ≡ 0 ∷ 0 ∷ []) ↔ (r ≡ 0)
unfolding code_of pairs
pair-zero r = (λ e. cc, λ e. rw e)

-- the pair of an update in the bytes of an accepted WRITE
pub update-pair : (p : History) (h : Head) (atomicity : ℕ) (us : List Update) (n r : ℕ) → PairAt (pairs_seen p h.role atomicity us) n r
    → accepted (state_seen p) (on_tables (WRITE h atomicity us)) ≡ true
    → pair_at n (reply_seen p (on_tables (WRITE h atomicity us))).written ≡ pair_of r
unfolding reply_seen reply_of answer_seen answer_bytes bytes_of
update-pair p h atomicity us n r s q = rw q (go (some_fails p h.role us))
  where
    go : (b : Bool) → pair_at n (reply_of (record { reason = if b then 23 else 0; records = pairs_seen p h.role atomicity us })).written ≡ pair_of r
    go true = pair-there _ _ _ _ n r (pairs_seen p h.role atomicity us) s
    go false = pair-there _ _ _ _ n r (pairs_seen p h.role atomicity us) s

-- ---- what looking back counts

-- an update that succeeds adds its effect, another adds none
noted-passing : (p : History) (role : ℕ) (u : Update) → succeeds p role u ≡ true → (with_update p role u).effects ≡ p.effects ++ (effect_of u ∷ [])
unfolding with_update
noted-passing p role u e = rw e

noted-failing : (p : History) (role : ℕ) (u : Update) → succeeds p role u ≡ false → (with_update p role u).effects ≡ p.effects
unfolding with_update
noted-failing p role u e = rw e

took-effect : (p : History) (role atomicity : ℕ) (earlier : List Update) (u : Update) (later : List Update)
    → took_effect p role atomicity earlier u later
    ≡ (if eqb atomicity 1 then not (some_fails p role (earlier ++ u ∷ later)) else succeeds (with_updates p role earlier) role u)
unfolding took_effect
took-effect p role atomicity earlier u later = refl

module _ (p : History) (role : ℕ) where
  noted-snoc : (p : History) (us : List Update) (u : Update) → with_updates p role (us ++ (u ∷ [])) ≡ with_update (with_updates p role us) role u
  unfolding with_updates
  noted-snoc p [] u = refl
  noted-snoc p (v ∷ us) u = noted-snoc (with_update p role v) us u

  module _ (atomicity : ℕ) where
    -- where each update takes effect that succeeds after those before it
    count_kept : (earlier us : List Update)
        → ((before : List Update) (u : Update) (after : List Update) → earlier ++ us ≡ before ++ u ∷ after
        → took_effect p role atomicity before u after ≡ succeeds (with_updates p role before) role u)
        → (with_updates (with_updates p role earlier) role us).effects
        ≡ (with_updates p role earlier).effects ++ effects_of p role atomicity earlier us
    unfolding effects_of with_updates
    count_kept earlier [] h = sym (append-nil _)
    count_kept earlier (u ∷ us) h =
        ap (λ (q : History). (with_updates q role us).effects) (sym (noted-snoc p earlier u))
        ∙ count_kept (earlier ++ (u ∷ [])) us (λ before v after e. h before v after (sym (append_assoc earlier (u ∷ []) us) ∙ e))
        ∙ ap (λ (q : History). q.effects ++ rest) (noted-snoc p earlier u)
        ∙ noted_one (succeeds (with_updates p role earlier) role u) refl
        ∙ ap (λ (b : Bool). (with_updates p role earlier).effects ++ (if b then effect_of u ∷ rest else rest)) (sym (h earlier u us refl))
      where
        rest : List Effect
        rest = effects_of p role atomicity (earlier ++ (u ∷ [])) us

        noted_one : (b : Bool) → succeeds (with_updates p role earlier) role u ≡ b
            → (with_update (with_updates p role earlier) role u).effects ++ rest
            ≡ (with_updates p role earlier).effects ++ (if b then effect_of u ∷ rest else rest)
        noted_one true e =
            ap (λ (l : List Effect). l ++ rest) (noted-passing (with_updates p role earlier) role u e)
            ∙ append_assoc (with_updates p role earlier).effects (effect_of u ∷ []) rest
        noted_one false e = ap (λ (l : List Effect). l ++ rest) (noted-failing (with_updates p role earlier) role u e)

    -- where none does
    count-undone : (earlier us : List Update)
        → ((before : List Update) (u : Update) (after : List Update) → earlier ++ us ≡ before ++ u ∷ after
        → took_effect p role atomicity before u after ≡ false)
        → effects_of p role atomicity earlier us ≡ []
    unfolding effects_of
    count-undone earlier [] h = refl
    count-undone earlier (u ∷ us) h =
        rw (h earlier u us refl)
        (count-undone (earlier ++ (u ∷ [])) us (λ before v after e. h before v after (sym (append_assoc earlier (u ∷ []) us) ∙ e)))

    counts : (us : List Update) → (with_batch p role atomicity us).effects ≡ p.effects ++ effects_of p role atomicity [] us
    unfolding with_batch with_updates
    counts us = go (eqb atomicity 1) refl (some_fails p role us) refl
      where
        took : (b c : Bool) → eqb atomicity 1 ≡ b → (before : List Update) (u : Update) (after : List Update)
            → some_fails p role (before ++ u ∷ after) ≡ c
            → took_effect p role atomicity before u after ≡ (if b then not c else succeeds (with_updates p role before) role u)
        took b c e before u after f =
            took-effect p role atomicity before u after
            ∙ ap₂ (λ (x y : Bool). if x then not y else succeeds (with_updates p role before) role u) e f

        go : (b : Bool) → eqb atomicity 1 ≡ b → (c : Bool) → some_fails p role us ≡ c
            → (if b && c then p else with_updates p role us).effects ≡ p.effects ++ effects_of p role atomicity [] us
        go true e true f =
            sym (ap (λ (l : List Effect). p.effects ++ l)
            (count-undone [] us (λ before u after q. took true true e before u after (ap (some_fails p role) (sym q) ∙ f)))
            ∙ append-nil _)
        go true e false f =
            count_kept [] us (λ before u after q. let g = ap (some_fails p role) (sym q) ∙ f in
            took true false e before u after g ∙ sym (none-fails role p before u after g))
        go false e c f = count_kept [] us (λ before u after q. took false (some_fails p role (before ++ u ∷ after)) e before u after refl)

-- and none of a batch that is rolled back
none-counted : (p : History) (role : ℕ) (us : List Update) → some_fails p role us ≡ true → (with_batch p role 1 us).effects ≡ p.effects
unfolding with_batch
none-counted p role us f = rw f

pub counted : (p : History) (h : Head) (us : List Update) → Counted p h us
unfolding with_call effects_with
counted p h us = record {
  effects = λ atomicity q. rw q (counts p h.role atomicity us);
  rolled-back = λ f. either (none-counted p h.role us f) (accepted (state_seen p) (on_tables (WRITE h 1 us)));
}
  where
    either : {l : List Effect} → l ≡ p.effects → (b : Bool) → (if b then l else p.effects) ≡ p.effects
    either e true = e
    either e false = refl
