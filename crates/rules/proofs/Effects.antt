-- One effect more at the end does to the entries present what the rules do to the entries stored. Assumes nothing.
use Rattle.std.specs.Prelude.{if◌then◌else◌}
use Prim.Native.Nat.{ℕ}
use mathlib.Core.Path.{◌≡◌, refl, sym, ◌∙◌, ap}
use mathlib.Core.Bool.{Bool, true, false, ◌||◌, not, or_assoc, or-false as or-none}
use mathlib.Core.List.{List, [], ◌∷◌, ◌++◌, map}
use Rattle.rules.specs.Bytes.{keep, same}
use Rattle.rules.specs.Key.{key_of}
use Rattle.rules.specs.LookBack.{Effect, inserted, modified, deleted, cleared, removes, revise, latest, gone, present}
use Rattle.rules.proofs.Tests.{same_true}

-- what an effect makes of a list of entries
unfoldable pub take_effect : Effect → List (List ℕ) → List (List ℕ)
take_effect (inserted e) es = es ++ (e ∷ [])
take_effect (modified e) es = map (revise (modified e)) es
take_effect (deleted k) es = keep (λ (e : List ℕ). not (same k (key_of e))) es
take_effect cleared es = []

-- ---- one effect more

latest-snoc : (e : List ℕ) (later : List Effect) (f : Effect) → latest e (later ++ (f ∷ [])) ≡ revise f (latest e later)
unfolding latest
latest-snoc e [] f = refl
latest-snoc e (g ∷ later) f = latest-snoc (revise g e) later f

gone-snoc : (e : List ℕ) (later : List Effect) (f : Effect) → gone e (later ++ (f ∷ [])) ≡ gone e later || removes f (latest e later)
unfolding gone latest
gone-snoc e [] f = or-none (removes f e)
gone-snoc e (g ∷ later) f = ap (λ b. removes g e || b) (gone-snoc (revise g e) later f) ∙ sym (or_assoc (removes g e) _ _)

if-not : {A : Type 0} (b : Bool) (x y : A) → (if not b then x else y) ≡ (if b then y else x)
if-not true x y = refl
if-not false x y = refl

-- one entry x in front of the others, unless it was gone before
one_more : (f : Effect) (b : Bool) (x : List ℕ) (new old : List (List ℕ)) → new ≡ take_effect f old
    → (if b || removes f x then new else revise f x ∷ new) ≡ take_effect f (if b then old else x ∷ old)
unfolding take_effect revise removes
one_more f true x new old ih = ih
one_more (inserted g) false x new old ih = ap (λ l. x ∷ l) ih
one_more (modified g) false x new old ih = ap (λ l. revise (modified g) x ∷ l) ih
one_more (deleted k) false x new old ih = rw ih (sym (if-not (same k (key_of x)) _ _))
one_more cleared false x new old ih = ih

pub present-snoc : (past : List Effect) (f : Effect) → present (past ++ (f ∷ [])) ≡ take_effect f (present past)
unfolding present take_effect latest gone
present-snoc [] (inserted e) = refl
present-snoc [] (modified e) = refl
present-snoc [] (deleted k) = refl
present-snoc [] cleared = refl
present-snoc (modified g ∷ past) f = present-snoc past f
present-snoc (deleted j ∷ past) f = present-snoc past f
present-snoc (cleared ∷ past) f = present-snoc past f
present-snoc (inserted g ∷ past) f =
    rw (gone-snoc g past f, latest-snoc g past f)
    (one_more f (gone g past) (latest g past) (present (past ++ (f ∷ []))) (present past) (present-snoc past f))

-- ---- no effect changes a key

pub key-revise : (f : Effect) (e : List ℕ) → key_of (revise f e) ≡ key_of e
unfolding revise
key-revise (inserted x) e = refl
key-revise (modified x) e = go (same (key_of x) (key_of e)) refl
  where
    go : (b : Bool) → same (key_of x) (key_of e) ≡ b → key_of (if b then x else e) ≡ key_of e
    go true p = same_true _ _ p
    go false p = refl
key-revise (deleted k) e = refl
key-revise cleared e = refl
