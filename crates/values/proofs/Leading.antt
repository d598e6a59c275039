-- The digits of a value are zeros, as many as its shortest form has fewer digits, and the digits of that; and the other way round.
-- Assumes nothing.
use Prim.Native.Nat.{ℕ, zero, suc, ◌+◌, ◌-◌, ◌≤◌, ◌<◌, min}
use native.Mathlib.Nat.{add-zero}
use native.Mathlib.Omega.{arith}
use mathlib.Core.Path.{◌≡◌, refl, sym, ap, ap₂, ◌∙◌}
use mathlib.Core.Bool.{Bool, true, false, ◌&&◌}
use mathlib.Core.List.{List, [], ◌∷◌}
use lib.Dec.{eqb}
use lib.ListN.{length, take, drop, replicate, length-drop}
use lib.Seq.{take_at, take-take, drop-drop, get_or-drop}
use borrow.Author.Tests.{eq-eqb, ne_eqb, eqb-true, eqb-false}
use Rattle.rules.specs.Bytes.{byte, part, same, all_zero}
use Rattle.rules.specs.Value.{stripped, padded, short}
use Rattle.rules.specs.Key.{same_value}
use Rattle.rules.proofs.Tests.{contradiction, and-true, same_true, eq-same}
use Rattle.rules.proofs.Lists.{drop-take, byte-part}
use Rattle.rules.proofs.Shortest.{part_length}
use Rattle.values.proofs.Digits.{one-stays, first_byte}
use Rattle.values.proofs.Compared.{digits-at-most, same_count, digit_at}

-- a comparison of numbers is the same from either side
eqb-sym : (a b : ℕ) → eqb a b ≡ eqb b a
eqb-sym a b = go (eqb b a) refl
  where
    go : (t : Bool) → eqb b a ≡ t → eqb a b ≡ t
    go true q = eq-eqb a b (sym (eqb-true b a q))
    go false q = ne_eqb a b (λ e. eqb-false b a q (sym e))

-- ---- digits without their leading zeros

-- how many zeros digits begin with, the last digit left out
record Leading (d : List ℕ) : Type 0 where
  zeros : ℕ
  fewer : zeros < length d
  zero : all_zero (take zeros d) ≡ true
  rest : stripped d ≡ drop zeros d
  first : 1 < length d - zeros → byte zeros d ≡ 0 → ⊥

leading : (d : List ℕ) → 1 ≤ length d → Leading d
leading [] h = absurd (omega arith)
leading (x ∷ []) h = record { zeros = 0; fewer = omega arith; zero = refl; rest = one-stays x; first = λ g z. absurd (omega arith) }
leading (x ∷ y ∷ d) h = go (eqb x 0) refl (leading (y ∷ d) (omega arith))
  where
    go : (b : Bool) → eqb x 0 ≡ b → Leading (y ∷ d) → Leading (x ∷ y ∷ d)
    go true e r = record {
      zeros = suc r.zeros;
      fewer = omega (arith, r.fewer);
      zero = rw (eqb-sym 0 x, e) r.zero;
      rest = rw e r.rest;
      first = λ g z. r.first (omega arith) z;
    }
    go false e r = record {
      zeros = 0;
      fewer = omega arith;
      zero = refl;
      rest = rw e;
      first = λ g z. contradiction (eq-eqb x 0 z) e;
    }

stripped-zeros : (k : ℕ) (d : List ℕ) → k < length d → all_zero (take k d) ≡ true → (1 < length d - k → byte k d ≡ 0 → ⊥) → stripped d ≡ drop k d
stripped-zeros zero [] h z n = absurd (omega arith)
stripped-zeros zero (x ∷ []) h z n = one-stays x
stripped-zeros zero (x ∷ y ∷ d) h z n = rw (ne_eqb x 0 (n (omega arith)))
stripped-zeros (suc k) [] h z n = absurd (omega arith)
stripped-zeros (suc k) (x ∷ d) h z n =
    let q = and-true (eqb 0 x) (all_zero (take k d)) z in
    rw (eqb-sym x 0 ∙ q.0) (stripped-zeros k d (omega arith) q.1 (λ g w. n (omega arith) w))

-- ---- a value of n digits, and a shortest form of m

-- what e has where it is the shortest form of v
pub record ShortestOf (e v : List ℕ) (n m : ℕ) : Type 0 where
  pub some : 1 ≤ m
  pub few : m ≤ n
  pub first : 1 < m → byte 1 e ≡ 0 → ⊥
  pub zeros : all_zero (part 1 (n - m) v) ≡ true
  pub digits : part 1 m e ≡ part (n - m + 1) m v

module _ (e v : List ℕ) (n m : ℕ) (size : length e ≡ 17) (long : length v ≡ 17) (count : n ≡ min 16 (byte 0 v)) (used : 1 ≤ n)
    (own : byte 0 e ≡ m) where
  abbrev d : List ℕ
  d = part 1 n v

  d-long : length d ≡ n
  d-long = part_length 1 n v (omega arith)

  by_digits : short v ≡ padded (stripped d)
  unfolding short
  by_digits = rw (ne_eqb (byte 0 v) 0 (λ z. omega arith)) (ap (λ (x : List ℕ). padded (stripped x)) (sym (digits-at-most v n long count)))

  -- the last digits
  last : m ≤ n → drop (n - m) d ≡ part (n - m + 1) m v
  last h =
      let a : n - (n - m) ≡ m = omega arith in
      let b : 1 + (n - m) ≡ n - m + 1 = omega arith in
      drop-take (n - m) n (drop 1 v) ∙ ap₂ take a (drop-drop (n - m) 1 v ∙ ap (λ (j : ℕ). drop j v) b)

  pub shortest-has : same_value e v ≡ true → ShortestOf e v n m
  unfolding same_value
  shortest-has q =
      let w = leading d (omega (arith, d-long)) in
      let k : ℕ = w.zeros in
      let s : List ℕ = drop k d in
      let ls : length s ≡ n - k = length-drop k d ∙ ap (λ (j : ℕ). j - k) d-long in
      let made : e ≡ padded s = same_true e (short v) q ∙ by_digits ∙ ap padded w.rest in
      let c : m ≡ n - k = sym own ∙ ap (byte 0) made ∙ ls in
      let fewer : k < n = omega (arith, w.fewer, d-long) in
      let lacks : k ≡ n - m = omega arith in
      let begins : byte 1 e ≡ byte k d =
      ap (byte 1) made ∙ digit_at s 1 (omega arith) (omega arith) ∙ get_or-drop k d 0 0 ∙ ap (λ (j : ℕ). byte j d) (add-zero k) in
      record {
        some = omega arith;
        few = omega arith;
        first = λ g z. w.first (omega (arith, d-long)) (sym begins ∙ z);
        zeros =
            ap all_zero (sym (take-take (n - m) n (drop 1 v) (omega arith))) ∙ ap (λ (j : ℕ). all_zero (take j d)) (sym lacks) ∙ w.zero;
        digits =
            ap (part 1 m) made ∙ take_at s (replicate (16 - length s) 0) m (ls ∙ sym c) ∙ ap (λ (j : ℕ). drop j d) lacks ∙ last (omega arith);
      }

  pub shortest-by : ShortestOf e v n m → same_value e v ≡ all_zero (drop (1 + m) e)
  unfolding same_value
  shortest-by s =
      let some : 1 ≤ m = s.some in
      let few : m ≤ n = s.few in
      let x : List ℕ = part (n - m + 1) m v in
      let lx : length x ≡ m = part_length (n - m + 1) m v (omega arith) in
      let place : 1 + (n - m) ≡ n - m + 1 = omega arith in
      let begins : byte 1 e ≡ byte (n - m) d =
      sym (first_byte 1 m e (omega arith)) ∙ ap (byte 0) s.digits ∙ first_byte (n - m + 1) m v (omega arith)
      ∙ ap (λ (j : ℕ). byte j v) (sym place) ∙ sym (byte-part 1 n (n - m) v (omega arith)) in
      let gone : stripped d ≡ x =
      stripped-zeros (n - m) d (omega (arith, d-long)) (ap all_zero (take-take (n - m) n (drop 1 v) (omega arith)) ∙ s.zeros)
      (λ g z. s.first (omega (arith, d-long)) (begins ∙ z))
      ∙ last few in
      ap (same e) (by_digits ∙ ap padded gone) ∙ same_count e x size (omega arith) (own ∙ sym lx)
      ∙ ap (λ (j : ℕ). same (part 1 j e) x && all_zero (drop (1 + j) e)) lx
      ∙ ap (λ (b : Bool). b && all_zero (drop (1 + m) e)) (eq-same s.digits)
