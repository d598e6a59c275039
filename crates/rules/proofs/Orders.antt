-- Laws of an order of refusals: one serves where a call is accepted, one where a reason cannot be given, and some where the order is
-- taken in two parts.
-- Assumes nothing.
use Rattle.std.specs.Prelude.{if◌then◌else◌}
use Prim.Native.Nat.{ℕ, ◌≤◌, ◌<◌}
use mathlib.Core.Path.{◌≡◌, refl, sym, ◌∙◌}
use mathlib.Core.Bool.{Bool, true, false, ◌&&◌, not, true≢false}
use mathlib.Core.List.{List, [], ◌∷◌, ◌++◌}
use native.Mathlib.Omega.{arith}
use lib.Dec.{eqb, leb, ltb}
use borrow.Author.Tests.{eqb-false, eq-eqb, ne_eqb, leb-true, ltb-true, not-true}
use Rattle.rules.specs.Bytes.{every}
use Rattle.rules.specs.Reason.{first}
use Rattle.rules.proofs.Tests.{and-true}

-- every reason of the order is one
abbrev pub positive : List (Bool × ℕ) → Bool
positive [] = true
positive (c ∷ cs) = ltb 0 c.1 && positive cs

-- no condition of the order holds
abbrev pub Clear : List (Bool × ℕ) → Type 0
Clear [] = Unit {0}
Clear (c ∷ cs) = (c.0 ≡ false) × Clear cs

pub first-clear : (cs : List (Bool × ℕ)) → positive cs ≡ true → first cs ≡ 0 → Clear cs
unfolding first
first-clear [] p e = tt
first-clear (c ∷ cs) p e =
    let q = and-true (ltb 0 c.1) (positive cs) p in
    go c.0 refl e (ltb-true 0 c.1 q.0) (λ h. first-clear cs q.1 h)
  where
    go : (b : Bool) → c.0 ≡ b → (if b then c.1 else first cs) ≡ 0 → 0 < c.1 → (first cs ≡ 0 → Clear cs) → (c.0 ≡ false) × Clear cs
    go true q h pos ih = absurd (omega arith)
    go false q h pos ih = (q, ih h)

-- the reason r is not in the order
abbrev pub avoids : ℕ → List (Bool × ℕ) → Bool
avoids r [] = true
avoids r (c ∷ cs) = not (eqb c.1 r) && avoids r cs

pub first-avoids : (r : ℕ) (cs : List (Bool × ℕ)) → 0 < r → avoids r cs ≡ true → first cs ≡ r → ⊥
unfolding first
first-avoids r [] pos a e = omega arith
first-avoids r (c ∷ cs) pos a e =
    let q = and-true (not (eqb c.1 r)) (avoids r cs) a in
    go c.0 (eqb-false c.1 r (not-true _ q.0)) (λ h. first-avoids r cs pos q.1 h) e
  where
    go : (b : Bool) → (c.1 ≡ r → ⊥) → (first cs ≡ r → ⊥) → (if b then c.1 else first cs) ≡ r → ⊥
    go true n ih h = n h
    go false n ih h = ih h

-- a test that every reason of the order passes
pub first_passes : (p : ℕ → Bool) (cs : List (Bool × ℕ)) → every (λ (c : Bool × ℕ). p c.1) cs ≡ true
    → eqb (first cs) 0 ≡ false → p (first cs) ≡ true
unfolding first
first_passes p [] h n = absurd (true≢false n)
first_passes p (c ∷ cs) h n =
    let q = and-true (p c.1) (every (λ (c : Bool × ℕ). p c.1) cs) h in
    go c.0 n q.0 (λ m. first_passes p cs q.1 m)
  where
    go : (b : Bool) → eqb (if b then c.1 else first cs) 0 ≡ false → p c.1 ≡ true
        → (eqb (first cs) 0 ≡ false → p (first cs) ≡ true) → p (if b then c.1 else first cs) ≡ true
    go true m t ih = t
    go false m t ih = ih m

-- no reason of the order is above n
pub first-most : (n : ℕ) (cs : List (Bool × ℕ)) → every (λ (c : Bool × ℕ). leb c.1 n) cs ≡ true → first cs ≤ n
unfolding first
first-most n [] h = omega arith
first-most n (c ∷ cs) h =
    let q = and-true (leb c.1 n) (every (λ (c : Bool × ℕ). leb c.1 n) cs) h in
    go c.0 (leb-true c.1 n q.0) (first-most n cs q.1)
  where
    go : (b : Bool) → c.1 ≤ n → first cs ≤ n → (if b then c.1 else first cs) ≤ n
    go true m ih = m
    go false m ih = ih

-- the later conditions are asked where none of the earlier ones holds
pub first_more : (cs ds : List (Bool × ℕ)) → positive cs ≡ true → first (cs ++ ds) ≡ (if eqb (first cs) 0 then first ds else first cs)
unfolding first
first_more [] ds p = refl
first_more (c ∷ cs) ds p =
    let q = and-true (ltb 0 c.1) (positive cs) p in
    go c.0 (ltb-true 0 c.1 q.0) (first_more cs ds q.1)
  where
    go : (b : Bool) → 0 < c.1 → first (cs ++ ds) ≡ (if eqb (first cs) 0 then first ds else first cs)
        → (if b then c.1 else first (cs ++ ds))
        ≡ (if eqb (if b then c.1 else first cs) 0 then first ds else if b then c.1 else first cs)
    go true pos ih = rw (ne_eqb c.1 0 (λ z. let w : ◌<◌ 0 c.1 = pos in omega arith))
    go false pos ih = ih

-- an order in two parts: the reason of the first part, where it has one, and otherwise that of the second
pub first_found : (cs ds : List (Bool × ℕ)) {r : ℕ} → positive cs ≡ true → r ≡ first cs → (r ≡ 0 → ⊥) → r ≡ first (cs ++ ds)
first_found cs ds p e n = e ∙ sym (first_more cs ds p ∙ (rw (ne_eqb (first cs) 0 (λ z. n (e ∙ z)))))

pub first-passed : (cs ds : List (Bool × ℕ)) {r m : ℕ} → positive cs ≡ true → r ≡ first cs → r ≡ 0 → m ≡ first ds → m ≡ first (cs ++ ds)
first-passed cs ds p e z q = q ∙ sym (first_more cs ds p ∙ (rw (eq-eqb (first cs) 0 (sym e ∙ z))))
