-- The streams that pass a test are the numbers of 0 to 31 that pass it, in order. Assumes nothing.
use Rattle.std.specs.Prelude.{Option, Some, None, option_map, filter, find, if◌then◌else◌}
use Rattle.std.specs.List.{range_with_len, list_any}
use Prim.Native.Nat.{ℕ, suc, ◌+◌, ◌<◌, ◌≤◌}
use native.Mathlib.Numerals.{add-one}
use native.Mathlib.Omega.{arith}
use mathlib.Core.Path.{◌≡◌, refl, sym, ap, ◌∙◌}
use mathlib.Core.Bool.{Bool, true, false, ◌&&◌, ◌||◌, cond, and-true, and-false}
use mathlib.Core.List.{List, [], ◌∷◌}
use lib.ListN.{length, get_or, drop, drop_of_length-le}
use lib.Seq.{drop-cons}
use Rattle.rules.specs.Bytes.{some_of}
use Rattle.rules.specs.Streams.{Stream, closed, Streams, stream_at, numbers, head}
use Rattle.leadership.specs.Meaning.{primary_of}
use Rattle.leadership.proofs.FirstPassing.{other}

-- from number n on, where q is the test by number
passing-from : (p : Stream → Bool) (q : ℕ → Bool) (n : ℕ) (l : List Stream)
    → ((j k : ℕ) → k ≡ n + j → j < length l → q k ≡ p (get_or l j closed)) → filter q (range_with_len n (length l)) ≡ numbers p n l
passing-from p q n [] h = refl
passing-from p q n (x ∷ l) h =
    let here : q n ≡ p x = h 0 n (omega arith) (omega arith) in
    rw here (go (p x) (passing-from p q (suc n) l (λ j k e g. h (suc j) k (omega arith) (omega arith))))
  where
    go : (b : Bool) → filter q (range_with_len (suc n) (length l)) ≡ numbers p (suc n) l
        → cond b (n ∷ filter q (range_with_len (n + 1) (length l))) (filter q (range_with_len (n + 1) (length l)))
        ≡ (if b then n ∷ numbers p (suc n) l else numbers p (suc n) l)
    go true i = rw add-one (ap (λ (t : List ℕ). n ∷ t) i)
    go false i = rw add-one i

pub passing : (e : Streams) (p : Stream → Bool) → length e.streams ≡ 32
    → filter (λ k. p (stream_at e k)) (range_with_len 0 32) ≡ numbers p 0 e.streams
passing e p n =
    ap (λ (m : ℕ). filter (λ k. p (stream_at e k)) (range_with_len 0 m)) (sym n)
    ∙ passing-from p (λ k. p (stream_at e k)) 0 e.streams (λ j k q h. let z : k ≡ j = omega arith in ap (λ (k : ℕ). p (stream_at e k)) z)

-- the first of them
first : (q : ℕ → Bool) (xs : List ℕ) → primary_of (find q xs) ≡ head (filter q xs)
first q [] = refl
first q (x ∷ xs) = go (q x) (first q xs)
  where
    go : (b : Bool) → primary_of (find q xs) ≡ head (filter q xs)
        → primary_of (cond b (Some x) (find q xs)) ≡ head (cond b (x ∷ filter q xs) (filter q xs))
    go true i = refl
    go false i = i

as_is : (o : Option ℕ) → option_map (λ x. x) o ≡ o
as_is None = refl
as_is (Some x) = refl

pub first-passing : (e : Streams) (p : Stream → Bool) → length e.streams ≡ 32
    → (o : Option ℕ) → option_map (λ x. x) o ≡ find (λ k. p (stream_at e k)) (range_with_len 0 32) → primary_of o ≡ head (numbers p 0 e.streams)
first-passing e p n o q =
    ap primary_of (sym (as_is o) ∙ q) ∙ first (λ k. p (stream_at e k)) (range_with_len 0 32) ∙ ap head (passing e p n)

-- whether one of them is another than s
other-of : (s : ℕ) (q : ℕ → Bool) (xs : List ℕ) → list_any (λ k. other s k && q k) xs ≡ some_of (other s) (filter q xs)
other-of s q [] = refl
other-of s q (x ∷ xs) = go (q x) (other-of s q xs)
  where
    go : (b : Bool) → list_any (λ k. other s k && q k) xs ≡ some_of (other s) (filter q xs)
        → (other s x && b) || list_any (λ k. other s k && q k) xs ≡ some_of (other s) (cond b (x ∷ filter q xs) (filter q xs))
    go true i = rw (and-true (other s x), i)
    go false i = rw (and-false (other s x), i)

pub other-passing : (e : Streams) (p : Stream → Bool) → length e.streams ≡ 32 → (s : ℕ)
    → list_any (λ k. other s k && p (stream_at e k)) (range_with_len 0 32) ≡ some_of (other s) (numbers p 0 e.streams)
other-passing e p n s = other-of s (λ k. p (stream_at e k)) (range_with_len 0 32) ∙ ap (some_of (other s)) (passing e p n)

-- ---- one by one

-- those from stream k on
abbrev pub rest : (Stream → Bool) → Streams → ℕ → List ℕ
rest p e k = numbers p k (drop k e.streams)

module _ (p : Stream → Bool) (e : Streams) (size : length e.streams ≡ 32) (k : ℕ) where
  pub rest-passes : k < 32 → p (stream_at e k) ≡ true → rest p e k ≡ k ∷ rest p e (k + 1)
  rest-passes h t = rw (drop-cons e.streams k closed (omega arith), t, add-one)

  pub rest-other : k < 32 → p (stream_at e k) ≡ false → rest p e k ≡ rest p e (k + 1)
  rest-other h t = rw (drop-cons e.streams k closed (omega arith), t, add-one)

  pub rest-none : 32 ≤ k → rest p e k ≡ []
  rest-none h = rw (drop_of_length-le e.streams (let g : length e.streams ≤ k = omega arith in g))
