-- Two bytes are a number below 65,536, and where the input has as many bytes after them, these are its first frame.
-- Assumes nothing.
use Rattle.std.proofs.Common.{◌≡◌, ℕ, suc, ◌+◌, ◌*◌, ◌-◌, ◌≤◌, ◌<◌, Bool, true, false, leb, List, [], ◌∷◌, length, take, drop, get_or}
use Rattle.std.proofs.Common.{Option, Some, None, refl, ap, ◌∙◌, inl, inr, arith}
use Rattle.std.specs.Prelude.{option_copied, slice_range}
use Rattle.std.specs.Slice.{IsGetRangeResult}
use Rattle.std.specs.Borrow.{Bor}
use Rattle.std.specs.Int.{w16, from_be_bytes}
use native.Mathlib.Numerals.{add-one}
use lib.Seq.{drop-cons}
use lib.ListN.{length-drop}
use borrow.Author.Tests.{le-leb, lt-leb, leb-true, leb-false}
use Rattle.rules.specs.Bytes.{part, int, number, number_from}
use Rattle.rules.proofs.Lists.{rest_all}
use Rattle.transcript.specs.Input.{first_frame}

-- the number of two bytes
pub two_bytes : (a : ℕ) (l : List ℕ) → a + 2 ≤ length l → int a 2 l ≡ get_or l a 0 * 256 + get_or l (a + 1) 0
unfolding number_from
two_bytes a l h =
    let x : drop a l ≡ get_or l a 0 ∷ drop (a + 1) l = rw (add-one a) (drop-cons l a 0 (omega arith)) in
    let y : drop (a + 1) l ≡ get_or l (a + 1) 0 ∷ drop (suc (a + 1)) l = drop-cons l (a + 1) 0 (omega arith) in
    ap (λ (d : List ℕ). number (take 2 d)) (x ∙ ap (λ (d : List ℕ). get_or l a 0 ∷ d) y) ∙ omega arith

-- and what the library reads
pub read_two : (a n : ℕ) (l : List ℕ) → a + 2 ≤ length l
    → n ≡ from_be_bytes w16 (get_or l a 0 ∷ get_or l (a + 1) 0 ∷ []) → n ≡ int a 2 l
read_two a n l h e = e ∙ omega (arith, two_bytes a l h)

module _ (input : List ℕ) where
  pub no_length : length input < 2 → None ≡ first_frame input
  unfolding first_frame
  no_length h = rw (lt-leb 2 (length input) h)

  module _ (n : ℕ) (e : n ≡ int 0 2 input) (h : 2 ≤ length input) where
    pub breaks-off : length input < 2 + n → None ≡ first_frame input
    unfolding first_frame
    breaks-off k = rw (← e, le-leb 2 (length input) h, lt-leb (2 + n) (length input) k)

    pub whole : 2 + n ≤ length input → Some (part 2 n input) ≡ first_frame input
    unfolding first_frame
    whole k = rw (← e, le-leb 2 (length input) h, le-leb (2 + n) (length input) k)

take-range : (n : ℕ) (l : List ℕ) → slice_range l 0 n ≡ take n l
take-range n l = let m : n - 0 ≡ n = omega arith in rw m

-- the first n bytes of what follows the length, if there are as many
pub frame_read : (input : List ℕ) (n : ℕ) (r : Option (Bor (List ℕ))) → 2 ≤ length input → n ≡ int 0 2 input
    → IsGetRangeResult (take (length input - 2) (drop 2 input)) 0 n r → option_copied r ≡ first_frame input
frame_read input n None h e g =
    elim g.0 [
      | inl k ↦ absurd (omega arith)
      | inr k ↦ breaks-off input n e h (omega (arith, ap length (rest_all 2 input), length-drop 2 input))
    ]
frame_read input n (Some x) h e g =
    let k = g.0 in
    let b : x.now ≡ part 2 n input = k.2 ∙ take-range n _ ∙ ap (take n) (rest_all 2 input) in
    ap (λ (l : List ℕ). Some l) b ∙ whole input n e h (omega (arith, k.1, ap length (rest_all 2 input), length-drop 2 input))

-- an input whose first frame is not whole is shorter than the longest frame with its length
pub rest-short : (input : List ℕ) → ((i : ℕ) → get_or input i 0 < 256) → None ≡ first_frame input → length input ≤ 65_536
rest-short input b e = go (leb 65_537 (length input)) refl
  where
    go : (t : Bool) → leb 65_537 (length input) ≡ t → length input ≤ 65_536
    go false q = omega (arith, leb-false 65_537 (length input) q)
    go true q =
        let h : 65_537 ≤ length input = leb-true 65_537 (length input) q in
        let n : int 0 2 input < 65_536 = omega (arith, two_bytes 0 input (omega arith), b 0, b 1) in
        let w = whole input (int 0 2 input) refl (omega arith) (omega arith) in
        let z : ◌≡◌ {A = ℕ} 0 1 = cc in
        omega arith
