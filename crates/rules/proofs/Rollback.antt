-- A batch with atomicity 1 is the one with atomicity 0 where no update fails, and leaves the tables where one does. Assumes nothing.
use Rattle.std.specs.Prelude.{if◌then◌else◌}
use Prim.Native.Nat.{ℕ}
use mathlib.Core.Path.{◌≡◌, refl, sym, ◌∙◌, ap}
use mathlib.Core.Bool.{Bool, true, false}
use mathlib.Core.Option.{Option, none, some}
use mathlib.Core.List.{List, [], ◌∷◌, ◌++◌}
use native.Mathlib.Omega.{arith}
use lib.Dec.{eqb}
use lib.ListN.{length, replicate}
use borrow.Author.Tests.{eqb-true, eqb-false, eq-eqb, ne_eqb}
use Rattle.rules.specs.Bytes.{every}
use Rattle.rules.specs.Frame.{Update}
use Rattle.rules.specs.Row.{Row}
use Rattle.rules.specs.Update.{Tables, Judge, judge, apply, Batch, each_alone, one_further, failure, rolled_back, unless_failed, all_or_none, batch}
use Rattle.rules.specs.Rollback.{Rollback}
use Rattle.rules.proofs.Tests.{contradiction, and-true}

pub eqb-sym : (a b : ℕ) → eqb a b ≡ eqb b a
eqb-sym a b = go (eqb b a) refl
  where
    go : (t : Bool) → eqb b a ≡ t → eqb a b ≡ t
    go true q = eq-eqb a b (sym (eqb-true b a q))
    go false q = ne_eqb a b (λ e. eqb-false b a q (sym e))

-- 25 for each update but the one that comes after `earlier`
stopped-at : (earlier : List Update) (u : Update) (later : List Update) (r : ℕ)
    → rolled_back (length (earlier ++ u ∷ later)) (length earlier, r) ≡ replicate (length earlier) 25 ++ r ∷ replicate (length later) 25
stopped-at [] u later r = refl
stopped-at (v ∷ earlier) u later r = ap (λ (l : List ℕ). 25 ∷ l) (stopped-at earlier u later r)

-- of batches by any judge
module _ (j : Judge) where
  -- what the first update that fails, if any, says of a batch
  abbrev pub Told : Option (ℕ × ℕ) → Tables → List Update → Type 0
  Told none t us = every (eqb 0) (each_alone j t us).reasons ≡ true
  Told (some f) t us =
      (every (eqb 0) (each_alone j t us).reasons ≡ false) × (every (eqb 0) (rolled_back (length us) f) ≡ false)

  pub told : (t : Tables) (us : List Update) → Told (failure j t us) t us
  unfolding failure each_alone
  told t [] = refl
  told t (u ∷ us) = go (eqb r 0) refl (failure j (apply r u t) us) (told (apply r u t) us)
    where
      r : ℕ
      r = j t u

      go : (b : Bool) → eqb r 0 ≡ b → (o : Option (ℕ × ℕ)) → Told o (apply r u t) us
          → Told (if b then one_further o else some (0, r)) t (u ∷ us)
      go true q none h = rw (eqb-sym 0 r, q) h
      go true q (some f) h = (rw (eqb-sym 0 r, q) h.0, refl)
      go false q o h = (rw (eqb-sym 0 r, q), rw (eqb-sym 0 r, q))

  pub failure-at : (t : Tables) (earlier : List Update) (u : Update) (later : List Update)
      → every (eqb 0) (each_alone j t earlier).reasons ≡ true
      → (j (each_alone j t earlier).tables u ≡ 0 → ⊥)
      → failure j t (earlier ++ u ∷ later) ≡ some (length earlier, j (each_alone j t earlier).tables u)
  unfolding failure each_alone
  failure-at t [] u later e n = rw (ne_eqb (j t u) 0 n)
  failure-at t (v ∷ earlier) u later e n =
      let r : ℕ = j t v in
      let z = and-true (eqb 0 r) _ e in
      let k : eqb r 0 ≡ true = eqb-sym r 0 ∙ z.0 in
      rw k (ap one_further (failure-at (apply r v t) earlier u later z.1 n))

  module _ (t : Tables) where
    all_pass : (us : List Update) → every (eqb 0) (each_alone j t us).reasons ≡ true → all_or_none j t us ≡ each_alone j t us
    unfolding all_or_none
    all_pass us e = go (failure j t us) (told t us)
      where
        go : (o : Option (ℕ × ℕ)) → Told o t us → unless_failed o t us (each_alone j t us) ≡ each_alone j t us
        go none h = refl
        go (some f) h = contradiction e h.0

    heads : (us : List Update) → every (eqb 0) (all_or_none j t us).reasons ≡ every (eqb 0) (each_alone j t us).reasons
    unfolding all_or_none
    heads us = go (failure j t us) (told t us)
      where
        go : (o : Option (ℕ × ℕ)) → Told o t us
            → every (eqb 0) (unless_failed o t us (each_alone j t us)).reasons ≡ every (eqb 0) (each_alone j t us).reasons
        go none h = refl
        go (some f) h = h.1 ∙ sym h.0

    some-fails : (us : List Update) → every (eqb 0) (all_or_none j t us).reasons ≡ false → (all_or_none j t us).tables ≡ t
    unfolding all_or_none
    some-fails us = go (failure j t us) (told t us)
      where
        go : (o : Option (ℕ × ℕ)) → Told o t us → every (eqb 0) (unless_failed o t us (each_alone j t us)).reasons ≡ false
            → (unless_failed o t us (each_alone j t us)).tables ≡ t
        go none h e = contradiction h e
        go (some f) h e = refl

-- one update more at the end, for a loop over the updates
pub alone-snoc : (j : Judge) (t : Tables) (us : List Update) (u : Update) →
    let b = each_alone j t us in
    let r = j b.tables u in
    each_alone j t (us ++ (u ∷ [])) ≡ record { tables = apply r u b.tables; reasons = b.reasons ++ (r ∷ []) }
unfolding each_alone
alone-snoc j t [] u = refl
alone-snoc j t (v ∷ us) u =
    ap (λ (b : Batch). let x : Batch = record { tables = b.tables; reasons = j t v ∷ b.reasons } in x)
    (alone-snoc j (apply (j t v) v t) us u)

-- what holds of the tables before a batch, and of those that its updates leave one by one, holds of those that the batch leaves
pub left-either : (P : Tables → Type 0) (atomicity : ℕ) (j : Judge) (t : Tables) (us : List Update)
    → P t → P (each_alone j t us).tables → P (batch atomicity j t us).tables
unfolding batch all_or_none
left-either P atomicity j t us before each = go (eqb atomicity 1) (failure j t us)
  where
    b : Batch
    b = each_alone j t us

    go : (a : Bool) (o : Option (ℕ × ℕ)) → P (if a then unless_failed o t us b else b).tables
    go true none = each
    go true (some f) = before
    go false o = each

-- a head of 23
pub head-23 : (b : Bool) → ◌≡◌ {A = ℕ} (if b then 0 else 23) 23 → b ≡ false
head-23 true e = absurd (omega arith)
head-23 false e = refl

pub rollback : (rows : List Row) (role : ℕ) (t : Tables) → Rollback rows role t
unfolding batch all_or_none
rollback rows role t = record {
  whole = all_pass (judge rows role) t;
  stopped = λ earlier u later e n. stops earlier u later (failure-at (judge rows role) t earlier u later e n);
  head = λ us. ap (λ (b : Bool). if b then 0 else 23) (heads (judge rows role) t us);
  left = λ us e. some-fails (judge rows role) t us (head-23 _ e);
}
  where
    stops : (earlier : List Update) (u : Update) (later : List Update) →
        let us = earlier ++ u ∷ later in
        let r = judge rows role (each_alone (judge rows role) t earlier).tables u in
        failure (judge rows role) t us ≡ some (length earlier, r)
        → ((all_or_none (judge rows role) t us).tables ≡ t)
        × ((all_or_none (judge rows role) t us).reasons ≡ replicate (length earlier) 25 ++ r ∷ replicate (length later) 25)
    stops earlier u later e = rw e (refl, stopped-at earlier u later _)
