-- Lists: tests along them, their members, and the order they are in. Two lists of the same members are equal where the relation
-- that orders them cannot run both ways. Assumes nothing.
use Rattle.std.specs.Prelude.{if◌then◌else◌}
use Prim.Native.Nat.{ℕ}
use mathlib.Core.Path.{◌≡◌, refl, sym, ◌∙◌, ap, ap₂, subst}
use mathlib.Core.Bool.{Bool, true, false, ◌||◌, false≢true}
use mathlib.Core.Logic.{◌⊎◌, inl, inr, ⊎_elim, ◌↔◌}
use mathlib.Core.List.{List, [], ◌∷◌, ◌++◌, map}
use Rattle.rules.specs.Bytes.{keep, every, some_of}
use Rattle.rules.specs.Presence.{In, Ordered}
use Rattle.rules.proofs.Tests.{contradiction, or-false, and-true, some-append}

-- ---- tests along a list

or-true : (a b : Bool) → b ≡ true → a || b ≡ true
or-true true b h = refl
or-true false b h = h

-- where the second of two fails, the first holds
pub or-first : (a b : Bool) → a || b ≡ true → b ≡ false → a ≡ true
or-first true b h n = refl
or-first false b h n = contradiction h n

module _ {A : Type 0} (p : A → Bool) where
  pub some_back : (s r : List A) → some_of p r ≡ true → some_of p (s ++ r) ≡ true
  some_back s r h = some-append p s r ∙ or-true (some_of p s) _ h

  pub some-front : (s r : List A) → some_of p s ≡ true → some_of p (s ++ r) ≡ true
  some-front s r h = rw (some-append p s r, h)

  pub none_more : (l : List A) (x : A) → some_of p l ≡ false → p x ≡ false → some_of p (l ++ (x ∷ [])) ≡ false
  none_more l x h n = rw (some-append p l (x ∷ []), h, n)

  pub none-less : (l : List A) (x : A) → some_of p (l ++ (x ∷ [])) ≡ false → (some_of p l ≡ false) × (p x ≡ false)
  none-less l x h =
      let q = or-false (some_of p l) (p x || false) (sym (some-append p l (x ∷ [])) ∙ h) in
      (q.0, (or-false (p x) false q.1).0)

-- What comes after one of two places in a list holds what comes after the other. So it cannot be that after one place some pass
-- q and none p, and after the other some pass p and none q.
pub crossed : {A : Type 0} (p q : A → Bool) (s : List A) (x : A) (r u : List A) (y : A) (v : List A) → s ++ x ∷ r ≡ u ++ y ∷ v
    → some_of p r ≡ false → some_of q r ≡ true → some_of q v ≡ false → some_of p v ≡ true → ⊥
crossed p q [] x r [] y v e a b c d = let h : r ≡ v = cc in contradiction d (rw (← h) a)
crossed p q [] x r (z ∷ u) y v e a b c d =
    let h : r ≡ u ++ y ∷ v = cc in
    contradiction (some_back p u (y ∷ v) (or-true (p y) _ d)) (rw (← h) a)
crossed p q (z ∷ s) x r [] y v e a b c d =
    let h : s ++ x ∷ r ≡ v = cc in
    contradiction (some_back q s (x ∷ r) (or-true (q x) _ b)) (rw h c)
crossed p q (z ∷ s) x r (w ∷ u) y v e a b c d = crossed p q s x r u y v (cc) a b c d

-- ---- members

pub in-every : (p : List ℕ → Bool) (l : List (List ℕ)) (e : List ℕ) → In e l → every p l ≡ true → p e ≡ true
in-every p [] e i h = absurd i
in-every p (x ∷ l) e (inl q) h = ap p q ∙ (and-true (p x) (every p l) h).0
in-every p (x ∷ l) e (inr i) h = in-every p l e i (and-true (p x) (every p l) h).1

pub in_some : (p : List ℕ → Bool) (l : List (List ℕ)) (e : List ℕ) → In e l → p e ≡ true → some_of p l ≡ true
in_some p [] e i t = absurd i
in_some p (x ∷ l) e (inl q) t = rw (sym (ap p q) ∙ t)
in_some p (x ∷ l) e (inr i) t = or-true (p x) (some_of p l) (in_some p l e i t)

pub some_in : (p : List ℕ → Bool) (l : List (List ℕ)) → some_of p l ≡ true → (e : List ℕ) × In e l × (p e ≡ true)
some_in p [] h = absurd (false≢true h)
some_in p (x ∷ l) h = go (p x) refl h (λ k. some_in p l k)
  where
    go : (b : Bool) → p x ≡ b → b || some_of p l ≡ true → (some_of p l ≡ true → (e : List ℕ) × In e l × (p e ≡ true))
        → (e : List ℕ) × In e (x ∷ l) × (p e ≡ true)
    go true t k ih = (x, inl refl, t)
    go false t k ih = let r = ih k in (r.0, inr r.1, r.2)

pub in-none : (p : List ℕ → Bool) (l : List (List ℕ)) (e : List ℕ) → In e l → some_of p l ≡ false → p e ≡ false
in-none p [] e i n = absurd i
in-none p (x ∷ l) e (inl q) n = ap p q ∙ (or-false (p x) (some_of p l) n).0
in-none p (x ∷ l) e (inr i) n = in-none p l e i (or-false (p x) (some_of p l) n).1

pub in-snoc : (l : List (List ℕ)) (x e : List ℕ) → In e (l ++ (x ∷ [])) → In e l ⊎ (e ≡ x)
in-snoc [] x e (inl q) = inr q
in-snoc [] x e (inr i) = absurd i
in-snoc (y ∷ l) x e (inl q) = inl (inl q)
in-snoc (y ∷ l) x e (inr i) = ⊎_elim (λ h. inl (inr h)) (λ q. inr q) (in-snoc l x e i)

pub snoc-in : (l : List (List ℕ)) (x e : List ℕ) → In e l ⊎ (e ≡ x) → In e (l ++ (x ∷ []))
snoc-in [] x e (inl i) = absurd i
snoc-in [] x e (inr q) = inl q
snoc-in (y ∷ l) x e (inl (inl q)) = inl q
snoc-in (y ∷ l) x e (inl (inr i)) = inr (snoc-in l x e (inl i))
snoc-in (y ∷ l) x e (inr q) = inr (snoc-in l x e (inr q))

pub in_map : (f : List ℕ → List ℕ) (l : List (List ℕ)) (e : List ℕ) → In e (map f l) → (x : List ℕ) × In x l × (e ≡ f x)
in_map f [] e i = absurd i
in_map f (y ∷ l) e (inl q) = (y, inl refl, q)
in_map f (y ∷ l) e (inr i) = let h = in_map f l e i in (h.0, inr h.1, h.2)

pub map-in : (f : List ℕ → List ℕ) (l : List (List ℕ)) (x e : List ℕ) → In x l → f x ≡ e → In e (map f l)
map-in f [] x e i h = absurd i
map-in f (y ∷ l) x e (inl q) h = inl (sym h ∙ ap f q)
map-in f (y ∷ l) x e (inr i) h = inr (map-in f l x e i h)

pub in-keep : (p : List ℕ → Bool) (l : List (List ℕ)) (e : List ℕ) → In e (keep p l) → In e l × (p e ≡ true)
in-keep p [] e i = absurd i
in-keep p (y ∷ l) e i = go (p y) refl i (λ h. in-keep p l e h)
  where
    go : (b : Bool) → p y ≡ b → In e (if b then y ∷ keep p l else keep p l) → (In e (keep p l) → In e l × (p e ≡ true))
        → In e (y ∷ l) × (p e ≡ true)
    go true t (inl q) ih = (inl q, ap p q ∙ t)
    go true t (inr h) ih = (inr (ih h).0, (ih h).1)
    go false t h ih = (inr (ih h).0, (ih h).1)

pub keep-in : (p : List ℕ → Bool) (l : List (List ℕ)) (e : List ℕ) → In e l → p e ≡ true → In e (keep p l)
keep-in p [] e i t = absurd i
keep-in p (y ∷ l) e (inl q) t = rw (← q, t) (inl refl)
keep-in p (y ∷ l) e (inr i) t = go (p y) (keep-in p l e i t)
  where
    go : (b : Bool) → In e (keep p l) → In e (if b then y ∷ keep p l else keep p l)
    go true h = inr h
    go false h = h

-- ---- lists in an order

-- another relation, which holds wherever the first does
pub ordered-imp : (R S : List ℕ → List ℕ → Type 0) (l : List (List ℕ)) → ((x y : List ℕ) → In x l → R x y → S x y)
    → Ordered R l → Ordered S l
ordered-imp R S [] h o = tt
ordered-imp R S (x ∷ l) h o = (λ y i. h x y (inl refl) (o.0 y i), ordered-imp R S l (λ a b i. h a b (inr i)) o.1)

module _ (R : List ℕ → List ℕ → Type 0) where
  pub ordered-snoc : (l : List (List ℕ)) (z : List ℕ) → Ordered R l → ((x : List ℕ) → In x l → R x z) → Ordered R (l ++ (z ∷ []))
  ordered-snoc [] z o h = (λ y i. absurd i, tt)
  ordered-snoc (x ∷ l) z o h = (
    λ y i. ⊎_elim (λ j. o.0 y j) (λ q. rw q (h x (inl refl))) (in-snoc l z y i),
    ordered-snoc l z o.1 (λ y i. h y (inr i)),
  )

  pub ordered-map : (f : List ℕ → List ℕ) (l : List (List ℕ)) → Ordered (λ x y. R (f x) (f y)) l → Ordered R (map f l)
  ordered-map f [] o = tt
  ordered-map f (x ∷ l) o =
      (λ y i. let h = in_map f l y i in rw h.2 (o.0 h.0 h.1), ordered-map f l o.1)

  pub ordered-keep : (p : List ℕ → Bool) (l : List (List ℕ)) → Ordered R l → Ordered R (keep p l)
  ordered-keep p [] o = tt
  ordered-keep p (x ∷ l) o = go (p x) (ordered-keep p l o.1)
    where
      go : (b : Bool) → Ordered R (keep p l) → Ordered R (if b then x ∷ keep p l else keep p l)
      go true h = (λ y i. o.0 y (in-keep p l y i).0, h)
      go false h = h

-- Of two heads that differ each would come later in the other's list.
module _ (R : List ℕ → List ℕ → Type 0) (asym : (x y : List ℕ) → R x y → R y x → ⊥) where
  -- no member of the tail is the head
  tail-in : (x y : List ℕ) (l m : List (List ℕ)) → x ≡ y → ((z : List ℕ) → In z l → R x z)
      → (e : List ℕ) → (In e (x ∷ l) → In e (y ∷ m)) → In e l → In e m
  tail-in x y l m p r e h i =
      ⊎_elim (λ q. let s = subst (R x) (q ∙ sym p) (r e i) in absurd (asym x x s s)) (λ j. j) (h (inr i))

  pub ordered-equal : (l m : List (List ℕ)) → ((e : List ℕ) → In e l ↔ In e m) → Ordered R l → Ordered R m → l ≡ m
  ordered-equal [] [] h o q = refl
  ordered-equal [] (y ∷ m) h o q = absurd ((h y).1 (inl refl))
  ordered-equal (x ∷ l) [] h o q = absurd ((h x).0 (inl refl))
  ordered-equal (x ∷ l) (y ∷ m) h o q = ap₂ (λ a t. a ∷ t) p (ordered-equal l m tails o.1 q.1)
    where
      heads : In x (y ∷ m) → In y (x ∷ l) → x ≡ y
      heads (inl p) j = p
      heads (inr i) (inl p) = sym p
      heads (inr i) (inr j) = absurd (asym x y (o.0 y j) (q.0 x i))

      p : x ≡ y
      p = heads ((h x).0 (inl refl)) ((h y).1 (inl refl))

      tails : (e : List ℕ) → In e l ↔ In e m
      tails e = (tail-in x y l m p o.0 e (h e).0, tail-in y x m l (sym p) q.0 e (h e).1)
