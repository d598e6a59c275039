-- Where the first entry of a key is, and what changing, removing or keeping the entries of that key comes to: right because
-- keys are distinct, so that no entry after it has the key. Assumes nothing.
use Prim.Native.Nat.{ℕ, zero, suc, ◌+◌, ◌<◌}
use native.Mathlib.Nat.{zero-add}
use native.Mathlib.Omega.{arith}
use mathlib.Core.Path.{◌≡◌, refl}
use mathlib.Core.Bool.{Bool, true, false, not, ◌||◌}
use mathlib.Core.List.{List, [], ◌∷◌, map}
use Rattle.std.specs.Prelude.{if◌then◌else◌, Some, None}
use lib.ListN.{length, get_or, set}
use Rattle.rules.specs.Bytes.{keep, some_of}
use Rattle.rules.specs.Key.{key_of, has_key}
use Rattle.rules.specs.Update.{stored}
use Rattle.rules.specs.Sound.{Distinct}
use Rattle.rules.proofs.Tests.{or-false, same_true}
use Rattle.rules.proofs.Tables.{Free}
use Rattle.store.specs.Store.{place_from, place, without}

-- entry i is the first that has the key
data At (k : List ℕ) : List (List ℕ) → ℕ → Type 0 where
  here : {e : List ℕ} {es : List (List ℕ)} → has_key k e ≡ true → At k (e ∷ es) zero
  there : {e : List ℕ} {es : List (List ℕ)} {i : ℕ} → has_key k e ≡ false → At k es i → At k (e ∷ es) (suc i)

-- ---- the search finds it

found : (k : List ℕ) (a : ℕ) (es : List (List ℕ)) (i : ℕ) → place_from a k es ≡ Some i → (j : ℕ) × (i ≡ a + j) × At k es j
unfolding place_from
found k a [] i p = let z : ◌≡◌ {A = ℕ} 0 1 = cc in absurd (omega arith)
found k a (e ∷ es) i p = go (has_key k e) refl p (λ q. found k (suc a) es i q)
  where
    go : (b : Bool) → has_key k e ≡ b → (if b then Some a else place_from (suc a) k es) ≡ Some i
        → (place_from (suc a) k es ≡ Some i → (j : ℕ) × (i ≡ suc a + j) × At k es j) → (j : ℕ) × (i ≡ a + j) × At k (e ∷ es) j
    go true h p ih = let q : a ≡ i = cc in (0, omega arith, here h)
    go false h p ih = let r = ih p in (suc r.0, omega (arith, r.1), there h r.2)

at : (k : List ℕ) (es : List (List ℕ)) (i : ℕ) → place k es ≡ Some i → At k es i
at k es i p = let r = found k 0 es i p in rw (r.1, zero-add r.0) r.2

free : (k : List ℕ) (a : ℕ) (es : List (List ℕ)) → place_from a k es ≡ None → Free k es
unfolding place_from
free k a [] p = refl
free k a (e ∷ es) p = go (has_key k e) p (λ q. free k (suc a) es q)
  where
    go : (b : Bool) → (if b then Some a else place_from (suc a) k es) ≡ None → (place_from (suc a) k es ≡ None → Free k es)
        → b || some_of (has_key k) es ≡ false
    go true p ih = let z : ◌≡◌ {A = ℕ} 0 1 = cc in absurd (omega arith)
    go false p ih = ih p

inside : {k : List ℕ} {es : List (List ℕ)} {i : ℕ} → At k es i → i < length es
inside (here h) = omega arith
inside (there h r) = omega (arith, inside r)

is-stored : {k : List ℕ} {es : List (List ℕ)} {i : ℕ} → At k es i → some_of (has_key k) es ≡ true
is-stored (here h) = rw h
is-stored (there h r) = rw h (is-stored r)

has-key : {k : List ℕ} {es : List (List ℕ)} {i : ℕ} → At k es i → has_key k (get_or es i []) ≡ true
has-key (here h) = h
has-key (there h r) = has-key r

pub place-stored : (k : List ℕ) (es : List (List ℕ))
    → (place k es ≡ None → stored k (record { entries = es }) ≡ false)
    × ((i : ℕ) → place k es ≡ Some i
    → (i < length es) × (stored k (record { entries = es }) ≡ true) × (has_key k (get_or es i []) ≡ true))
unfolding stored
place-stored k es = (free k 0 es, λ i p. let a = at k es i p in (inside a, is-stored a, has-key a))

-- ---- entries without the key

module _ (p : List ℕ → Bool) where
  replace-none : (e : List ℕ) (es : List (List ℕ)) → some_of p es ≡ false
      → map (λ (old : List ℕ). if p old then e else old) es ≡ es
  replace-none e [] n = refl
  replace-none e (x ∷ es) n = let q = or-false (p x) (some_of p es) n in rw (q.0, replace-none e es q.1)

  remove-none : (es : List (List ℕ)) → some_of p es ≡ false → keep (λ (old : List ℕ). not (p old)) es ≡ es
  remove-none [] n = refl
  remove-none (x ∷ es) n = let q = or-false (p x) (some_of p es) n in rw (q.0, remove-none es q.1)

  keep-none : (es : List (List ℕ)) → some_of p es ≡ false → keep p es ≡ []
  keep-none [] n = refl
  keep-none (x ∷ es) n = let q = or-false (p x) (some_of p es) n in rw q.0 (keep-none es q.1)

-- the entries after one that has the key
free-after : (k e : List ℕ) (es : List (List ℕ)) → has_key k e ≡ true → Distinct (e ∷ es) → Free k es
unfolding stored
free-after k e es h d = rw (same_true (key_of e) k h) at d.0

-- ---- what a change of the entries that have the key comes to

replaced : (k e : List ℕ) {es : List (List ℕ)} {i : ℕ} → At k es i → Distinct es
    → map (λ (old : List ℕ). if has_key k old then e else old) es ≡ set es i e
replaced k e (here {e = x} {es} h) d = rw (h, replace-none (has_key k) e es (free-after k x es h d))
replaced k e (there {e = x} {es} h r) d = rw (h, replaced k e r d.1)

removed : (k : List ℕ) {es : List (List ℕ)} {i : ℕ} → At k es i → Distinct es
    → keep (λ (old : List ℕ). not (has_key k old)) es ≡ without i es
removed k (here {e = x} {es} h) d = rw h (remove-none (has_key k) es (free-after k x es h d))
removed k (there {e = x} {es} h r) d = rw (h, removed k r d.1)

kept : (k : List ℕ) {es : List (List ℕ)} {i : ℕ} → At k es i → Distinct es → keep (has_key k) es ≡ get_or es i [] ∷ []
kept k (here {e = x} {es} h) d = rw (h, keep-none (has_key k) es (free-after k x es h d))
kept k (there {e = x} {es} h r) d = rw h (kept k r d.1)

pub modify-place : (e : List ℕ) (es : List (List ℕ)) (i : ℕ) → Distinct es → place (key_of e) es ≡ Some i
    → map (λ (old : List ℕ). if has_key (key_of e) old then e else old) es ≡ set es i e
modify-place e es i d p = replaced (key_of e) e (at (key_of e) es i p) d

pub delete-place : (k : List ℕ) (es : List (List ℕ)) (i : ℕ) → Distinct es → place k es ≡ Some i
    → keep (λ (old : List ℕ). not (has_key k old)) es ≡ without i es
delete-place k es i d p = removed k (at k es i p) d

pub keep-place : (k : List ℕ) (es : List (List ℕ)) (i : ℕ) → Distinct es → place k es ≡ Some i
    → keep (has_key k) es ≡ get_or es i [] ∷ []
keep-place k es i d p = kept k (at k es i p) d

pub keep-absent : (k : List ℕ) (es : List (List ℕ)) → place k es ≡ None → keep (has_key k) es ≡ []
keep-absent k es p = keep-none (has_key k) es (free k 0 es p)
