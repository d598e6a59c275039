-- The first stream that passes a test: whether it is stream s, and what becomes of it where another stream is stored at s. Assumes nothing.
use Rattle.std.specs.Prelude.{if◌then◌else◌}
use Prim.Native.Nat.{ℕ, zero, suc, ◌+◌, ◌<◌}
use native.Mathlib.Omega.{arith}
use mathlib.Core.Path.{◌≡◌, refl}
use mathlib.Core.Bool.{Bool, true, false, not}
use mathlib.Core.List.{List, [], ◌∷◌}
use mathlib.Core.Option.{Option, none, some}
use lib.Dec.{eqb}
use lib.ListN.{length, get_or, set}
use borrow.Author.Tests.{eq-eqb, ne_eqb}
use Rattle.rules.specs.Bytes.{some_of}
use Rattle.rules.specs.Streams.{Stream, closed, numbers, head, is, same_option}

-- a stream other than s
abbrev pub other : ℕ → ℕ → Bool
other s q = not (eqb q s)

-- stream n goes before the others where it passes
abbrev pub listed_if : Bool → ℕ → List ℕ → List ℕ
listed_if b n l = if b then n ∷ l else l

same_refl : (o : Option ℕ) → same_option o o ≡ true
same_refl none = refl
same_refl (some q) = eq-eqb q q refl

same_some : (o : Option ℕ) (k : ℕ) → same_option o (some k) ≡ is k o
same_some none k = refl
same_some (some q) k = refl

module _ (p : Stream → Bool) where
  -- the first from n on
  abbrev from : ℕ → List Stream → Option ℕ
  from n l = head (numbers p n l)

  -- the first from n on, where stream n is followed by those of l
  abbrev next : ℕ → List Stream → Bool → Option ℕ
  next n l b = head (listed_if b n (numbers p (suc n) l))

  -- it is none below n
  not-below : (l : List Stream) (n k : ℕ) → k < n → (is k (from n l) ≡ false) × (same_option (some k) (from n l) ≡ false)
  not-below [] n k h = (refl, refl)
  not-below (x ∷ l) n k h = go (p x) (not-below l (suc n) k (omega arith))
    where
      go : (b : Bool) → (is k (from (suc n) l) ≡ false) × (same_option (some k) (from (suc n) l) ≡ false)
          → (is k (next n l b) ≡ false) × (same_option (some k) (next n l b) ≡ false)
      go true i = (ne_eqb n k (λ e. omega arith), ne_eqb k n (λ e. omega arith))
      go false i = i

  -- a stream that does not pass is not the first
  pub not-passing : (l : List Stream) (n j s : ℕ) → s ≡ n + j → p (get_or l j closed) ≡ false → is s (from n l) ≡ false
  not-passing [] n j s q e = refl
  not-passing (y ∷ l) n zero s q e =
      let z : s ≡ n = omega arith in
      rw (e, z) (not-below l (suc n) n (omega arith)).0
  not-passing (y ∷ l) n (suc j) s q e = go (p y) (not-passing l (suc n) j s (omega arith) e)
    where
      go : (b : Bool) → is s (from (suc n) l) ≡ false → is s (next n l b) ≡ false
      go true i = ne_eqb n s (λ z. omega arith)
      go false i = i

  module _ (x : Stream) where
    -- a stream that passes no more: the first stays, unless it was that stream
    pub passes-no-more : p x ≡ false → (l : List Stream) (n j s : ℕ) → s ≡ n + j
        → same_option (from n l) (from n (set l j x)) ≡ not (is s (from n l))
    passes-no-more e [] n j s q = refl
    passes-no-more e (y ∷ l) n zero s q =
        let z : s ≡ n = omega arith in
        rw (e, z) (go (p y) (not-below l (suc n) n (omega arith)))
      where
        go : (b : Bool) → (is n (from (suc n) l) ≡ false) × (same_option (some n) (from (suc n) l) ≡ false)
            → same_option (next n l b) (from (suc n) l) ≡ not (is n (next n l b))
        go true i = rw (i.1, eq-eqb n n refl)
        go false i = rw i.0 (same_refl (from (suc n) l))
    passes-no-more e (y ∷ l) n (suc j) s q = go (p y) (passes-no-more e l (suc n) j s (omega arith))
      where
        go : (b : Bool) → same_option (from (suc n) l) (from (suc n) (set l j x)) ≡ not (is s (from (suc n) l))
            → same_option (next n l b) (next n (set l j x) b) ≡ not (is s (next n l b))
        go true i = rw (eq-eqb n n refl, ne_eqb n s (λ z. omega arith))
        go false i = i

    -- a stream that passes, as no other does: it is the first now
    pub passes-alone : p x ≡ true → (l : List Stream) (n j s : ℕ) → s ≡ n + j → j < length l
        → some_of (other s) (numbers p n l) ≡ false → same_option (from n l) (from n (set l j x)) ≡ is s (from n l)
    passes-alone e [] n j s q h f = absurd (omega arith)
    passes-alone e (y ∷ l) n zero s q h f =
        let z : s ≡ n = omega arith in
        rw (e, z) (same_some (next n l (p y)) n)
    passes-alone e (y ∷ l) n (suc j) s q h f =
        go (p y) f (λ g. passes-alone e l (suc n) j s (omega arith) (omega arith) g)
      where
        go : (b : Bool) → some_of (other s) (listed_if b n (numbers p (suc n) l)) ≡ false
            → (some_of (other s) (numbers p (suc n) l) ≡ false → same_option (from (suc n) l) (from (suc n) (set l j x)) ≡ is s (from (suc n) l))
            → same_option (next n l b) (next n (set l j x) b) ≡ is s (next n l b)
        go true g i =
            let t : eqb n s ≡ false = ne_eqb n s (λ z. omega arith) in
            let u : true ≡ false = rw (t) at g in
            absurd (let z : ◌≡◌ {A = ℕ} 0 1 = cc in omega arith)
        go false g i = i g
