-- Comparing bytes with a value in shortest form, which is its count, its digits and zeros, part by part. Assumes nothing.
use Prim.Native.Nat.{ℕ, zero, suc, ◌+◌, ◌-◌, ◌≤◌, ◌<◌, min}
use native.Mathlib.Nat.{zero-add}
use native.Mathlib.Omega.{arith}
use mathlib.Core.Path.{◌≡◌, refl, sym, ap, ap₂, ◌∙◌}
use mathlib.Core.Bool.{Bool, true, false, ◌&&◌}
use mathlib.Core.List.{List, [], ◌∷◌, ◌++◌}
use lib.Dec.{eqb, leb}
use lib.ListN.{length, take, drop, get_or, replicate, length-take, length-drop, take-append-drop}
use lib.ListN.{get_or-append}
use lib.Seq.{take_all, take-take, drop-drop, drop-cons, get_or-append-add}
use borrow.Author.Tests.{eq-eqb, ne_eqb, leb-true, leb-false, le-leb}
use Rattle.rules.specs.Bytes.{byte, part, same, all_zero}
use Rattle.rules.specs.Value.{is_value, stripped, padded, short}
use Rattle.rules.proofs.Tests.{contradiction, same_true, same_refl, eq-same, ne_same}
use Rattle.rules.proofs.Lists.{drop-take}
use Rattle.rules.proofs.Rollback.{eqb-sym}
use Rattle.rules.proofs.Shortest.{part_length, stripped-length}
use Rattle.rules.proofs.InPlace.{same-append}
use Rattle.buffers.proofs.Words.{same-split}
use Rattle.values.proofs.Digits.{zero-goes, other-stays, last-stays, part-all}

-- ---- compared with digits and zeros

same-zeros : (n : ℕ) (x : List ℕ) → length x ≡ n → same x (replicate n 0) ≡ all_zero x
same-zeros zero [] h = refl
same-zeros zero (a ∷ x) h = absurd (omega arith)
same-zeros (suc n) [] h = absurd (omega arith)
same-zeros (suc n) (a ∷ x) h = ap₂ ◌&&◌ (eqb-sym a 0) (same-zeros n x (omega arith))

module _ (e d : List ℕ) (size : length e ≡ 17) (few : length d ≤ 16) where
  -- another count
  pub other-count : (byte 0 e ≡ length d → ⊥) → same e (padded d) ≡ false
  other-count n = rw (drop-cons e 0 0 (omega arith), ne_eqb (byte 0 e) (length d) n)

  -- the same count: then the digits, and what is after them
  pub same_count : byte 0 e ≡ length d → same e (padded d) ≡ (same (part 1 (length d) e) d && all_zero (drop (1 + length d) e))
  same_count n =
      let m : ℕ = length d in
      let ld : length (part 1 m e) ≡ m = part_length 1 m e (omega arith) in
      let lz : length (drop (1 + m) e) ≡ 16 - m = simp length-drop (omega arith) in
      let split : drop 1 e ≡ part 1 m e ++ drop (1 + m) e =
      sym (ap (λ (x : List ℕ). part 1 m e ++ x) (sym (drop-drop m 1 e)) ∙ take-append-drop m (drop 1 e)) in
      ap (λ (x : List ℕ). same x (padded d)) (drop-cons e 0 0 (omega arith))
      ∙ ap (λ (b : Bool). b && same (drop 1 e) (d ++ replicate (16 - m) 0)) (eq-eqb (byte 0 e) m n)
      ∙ ap (λ (x : List ℕ). same x (d ++ replicate (16 - m) 0)) split
      ∙ same-append (part 1 m e) d (drop (1 + m) e) (replicate (16 - m) 0) ld
      ∙ ap (◌&&◌ (same (part 1 m e) d)) (same-zeros (16 - m) (drop (1 + m) e) lz)

-- ---- 17 bytes as they are: the first, and two words

pub by-words : (e v : List ℕ) → length e ≡ 17 → length v ≡ 17
    → same e v ≡ (eqb (byte 0 e) (byte 0 v) && (same (part 1 8 e) (part 1 8 v) && same (part 9 8 e) (part 9 8 v)))
by-words e v h g =
    let a : length (drop 1 e) ≡ 16 = simp length-drop (omega arith) in
    let b : length (drop 1 v) ≡ 16 = simp length-drop (omega arith) in
    let rest : (l : List ℕ) → length l ≡ 17 → drop 8 (drop 1 l) ≡ part 9 8 l =
    λ l q. drop-drop 8 1 l ∙ sym (take_all 8 (drop 9 l) (let z : length (drop 9 l) ≤ 8 = simp length-drop (omega arith) in z)) in
    ap₂ same (drop-cons e 0 0 (omega arith)) (drop-cons v 0 0 (omega arith))
    ∙ ap (◌&&◌ (eqb (byte 0 e) (byte 0 v)))
    (same-split 8 (drop 1 e) (drop 1 v) (omega arith) (omega arith)
    ∙ ap₂ (λ (x y : List ℕ). same (part 1 8 e) (part 1 8 v) && same x y) (rest e h) (rest v g))

-- ---- eight bytes or more: the first eight and the last

-- two words that overlap, or are next to each other, are all of them
overlap : (a b : List ℕ) (c : ℕ) → length a ≡ c → length b ≡ c → 8 ≤ c → c ≤ 16
    → same a b ≡ (same (take 8 a) (take 8 b) && same (drop (c - 8) a) (drop (c - 8) b))
overlap a b c l m h few = go (same (take 8 a) (take 8 b)) refl (same (drop (c - 8) a) (drop (c - 8) b)) refl
  where
    later : (x : List ℕ) → drop 8 x ≡ drop (16 - c) (drop (c - 8) x)
    later x = let e : 8 ≡ c - 8 + (16 - c) = omega arith in ap (λ (j : ℕ). drop j x) e ∙ sym (drop-drop (16 - c) (c - 8) x)

    joined : take 8 a ≡ take 8 b → drop (c - 8) a ≡ drop (c - 8) b → a ≡ b
    joined p q =
        sym (take-append-drop 8 a) ∙ ap₂ (λ (x y : List ℕ). x ++ y) p (later a ∙ ap (drop (16 - c)) q ∙ sym (later b)) ∙ take-append-drop 8 b

    go : (s : Bool) → same (take 8 a) (take 8 b) ≡ s → (t : Bool) → same (drop (c - 8) a) (drop (c - 8) b) ≡ t → same a b ≡ (s && t)
    go true p true q = eq-same (joined (same_true (take 8 a) (take 8 b) p) (same_true (drop (c - 8) a) (drop (c - 8) b) q))
    go true p false q = ne_same {a = a} {b = b} (λ z. contradiction (eq-same (ap (drop (c - 8)) z)) q)
    go false p t q = ne_same {a = a} {b = b} (λ z. contradiction (eq-same (ap (take 8) z)) p)

last-eight : (a c : ℕ) (l : List ℕ) → 8 ≤ c → drop (c - 8) (part a c l) ≡ part (a + (c - 8)) 8 l
last-eight a c l h =
    let e : c - (c - 8) ≡ 8 = omega arith in
    drop-take (c - 8) c (drop a l) ∙ ap₂ (λ (n : ℕ) (x : List ℕ). take n x) e (drop-drop (c - 8) a l)

pub two-words : (e v : List ℕ) (i j c x y : ℕ) → i + c ≤ length e → j + c ≤ length v → 8 ≤ c → c ≤ 16 → x ≡ i + (c - 8) → y ≡ j + (c - 8)
    → same (part i c e) (part j c v) ≡ (same (part i 8 e) (part j 8 v) && same (part x 8 e) (part y 8 v))
two-words e v i j c x y p q h few ex ey =
    overlap (part i c e) (part j c v) c (part_length i c e p) (part_length j c v q) h few
    ∙ ap₂ ◌&&◌ (ap₂ same (take-take 8 c (drop i e) h) (take-take 8 c (drop j v) h))
    (ap₂ same (last-eight i c e h ∙ ap (λ (n : ℕ). part n 8 e) (sym ex)) (last-eight j c v h ∙ ap (λ (n : ℕ). part n 8 v) (sym ey)))

-- ---- the digits of a value

-- as many as its length byte says, 16 at most
pub digits-at-most : (v : List ℕ) (n : ℕ) → length v ≡ 17 → n ≡ min 16 (byte 0 v) → part 1 n v ≡ part 1 (byte 0 v) v
digits-at-most v n h e = go (leb (byte 0 v) 16) refl
  where
    go : (b : Bool) → leb (byte 0 v) 16 ≡ b → part 1 n v ≡ part 1 (byte 0 v) v
    go true q =
        let f : byte 0 v ≤ 16 = leb-true (byte 0 v) 16 q in
        let m : n ≡ byte 0 v = omega arith in
        ap (λ (j : ℕ). part 1 j v) m
    go false q =
        let f : 16 < byte 0 v = leb-false (byte 0 v) 16 q in
        let l : length (drop 1 v) ≤ n = simp length-drop (omega arith) in
        part-all 1 n (byte 0 v) v l (omega arith)

-- the shortest form, by where its number begins
pub short-from : (v : List ℕ) (n first : ℕ) → length v ≡ 17 → n ≡ min 16 (byte 0 v) → 1 ≤ n
    → stripped (part (0 + 1) n v) ≡ part (0 + first) (n + 1 - first) v → short v ≡ padded (part first (n + 1 - first) v)
unfolding short
short-from v n first h e some s =
    rw (ne_eqb (byte 0 v) 0 (λ z. omega arith))
    (ap (λ (x : List ℕ). padded (stripped x)) (sym (digits-at-most v n h e))
    ∙ ap padded (s ∙ ap (λ (j : ℕ). part j (n + 1 - first) v) (zero-add first)))

-- the digits from a place on, as many as there are
pub from-length : (v : List ℕ) (n first : ℕ) → length v ≡ 17 → n ≤ 16 → 1 ≤ first → first ≤ n → length (part first (n + 1 - first) v) ≡ n + 1 - first
from-length v n first h few some inside = part_length first (n + 1 - first) v (omega arith)

-- ---- bytes of a value that is padded

module _ (d : List ℕ) (i : ℕ) (some : 1 ≤ i) where
  after-count : byte i (padded d) ≡ get_or (d ++ replicate (16 - length d) 0) (i - 1) 0
  after-count = let e : i ≡ suc (i - 1) = omega arith in ap (λ (k : ℕ). byte k (padded d)) e

  pub digit_at : i ≤ length d → byte i (padded d) ≡ byte (i - 1) d
  digit_at h = after-count ∙ get_or-append d (replicate (16 - length d) 0) 0 (i - 1) (omega arith)

-- ---- in shortest form already

module _ (v : List ℕ) (size : length v ≡ 17) (used : byte 0 v ≡ 0 → ⊥) where
  by_digits : short v ≡ padded (stripped (part 1 (byte 0 v) v))
  unfolding short
  by_digits = rw (ne_eqb (byte 0 v) 0 used)

  few-digits : length (stripped (part 1 (byte 0 v) v)) ≤ 16
  few-digits =
      let a : length (part 1 (byte 0 v) v) ≤ 16 = simp (length-take, length-drop) (omega arith) in
      omega (arith, stripped-length (part 1 (byte 0 v) v))

  -- a leading zero before another digit
  pub leading-zero : 1 < byte 0 v → byte 1 v ≡ 0 → same v (short v) ≡ false
  leading-zero more z =
      let k : ℕ = byte 0 v - 1 in
      let e : byte 0 v ≡ suc k = omega arith in
      let s : stripped (part 1 (byte 0 v) v) ≡ stripped (part 2 k v) =
      ap (λ (n : ℕ). stripped (part 1 n v)) e ∙ zero-goes v 1 k (omega arith) z in
      let l : length (part 2 k v) ≤ k = simp length-take (omega arith) in
      ap (same v) by_digits
      ∙ other-count v (stripped (part 1 (byte 0 v) v)) size few-digits
      (λ q. omega (arith, q, ap length s, stripped-length (part 2 k v)))

  -- none
  pub no-leading-zero : (1 < byte 0 v → byte 1 v ≡ 0 → ⊥) → same v (short v) ≡ is_value v
  unfolding is_value
  no-leading-zero first = ap (same v) by_digits ∙ go (leb (byte 0 v) 16) refl
    where
      n : ℕ
      n = byte 0 v

      -- so the digits stay
      stays : stripped (part 1 n v) ≡ part 1 n v
      stays = by (leb n 1) refl
        where
          by : (b : Bool) → leb n 1 ≡ b → stripped (part 1 n v) ≡ part 1 n v
          by true q =
              let f : n ≤ 1 = leb-true n 1 q in
              let e : n ≡ 1 = omega arith in
              rw e (last-stays v 1 (omega arith))
          by false q =
              let f : 1 < n = leb-false n 1 q in
              let e : n ≡ suc (n - 1) = omega arith in
              rw e (other-stays v 1 (n - 1) (omega arith) (first f))

      go : (b : Bool) → leb n 16 ≡ b → same v (padded (stripped (part 1 n v))) ≡ ((leb 1 n && b) && all_zero (drop (1 + n) v))
      go true q =
          let f : n ≤ 16 = leb-true n 16 q in
          let l : length (part 1 n v) ≡ n = part_length 1 n v (omega arith) in
          let one : leb 1 n ≡ true = le-leb 1 n (omega (arith, used)) in
          ap (λ (x : List ℕ). same v (padded x)) stays
          ∙ same_count v (part 1 n v) size (omega arith) (sym l)
          ∙ ap (λ (m : ℕ). same (part 1 m v) (part 1 n v) && all_zero (drop (1 + m) v)) l
          ∙ rw (same_refl (part 1 n v), one) refl
      go false q =
          let f : 16 < n = leb-false n 16 q in
          other-count v (stripped (part 1 n v)) size few-digits (λ e. omega (arith, few-digits))
          ∙ rw (le-leb 1 n (omega arith)) refl
