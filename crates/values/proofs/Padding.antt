-- The bytes after a value's digits are 0 where the words that they are in are small: they are the last, most significant ones of a
-- little-endian word. Its first digits are 0 where a power of 256 divides the words that they are in. Assumes nothing.
use Prim.Native.Nat.{ℕ, ◌+◌, ◌-◌, ◌%◌, ◌^◌, ◌≤◌, ◌<◌}
use native.Mathlib.Omega.{arith}
use mathlib.Core.Path.{◌≡◌, sym, ap, ap₂, ◌∙◌}
use mathlib.Core.Bool.{Bool, true, ◌&&◌}
use mathlib.Core.List.{List}
use lib.Dec.{eqb, ltb}
use lib.ListN.{length, take, drop, length-drop, drop_of_length-le}
use lib.Seq.{take_all, take-take, drop-drop}
use Rattle.rules.specs.Bytes.{part, all_zero}
use Rattle.rules.proofs.Lists.{drop-take}
use Rattle.buffers.specs.Word.{little_endian}
use Rattle.buffers.proofs.Words.{Bytes, bytes_drop, bytes_take, zero_word, zero-above, zero-below, zero-split}

module _ (v : List ℕ) (n : ℕ) (size : length v ≡ 17) (b : Bytes v) where
  -- of 16 digits there are none
  pub none_after : n ≡ 16 → all_zero (drop (1 + n) v) ≡ true
  none_after e = ap all_zero (drop_of_length-le v {i = 1 + n} (omega arith))

  last_word : part 9 8 v ≡ drop 9 v
  last_word = take_all 8 (drop 9 v) (let z : length (drop 9 v) ≤ 8 = simp length-drop (omega arith) in z)

  -- of eight or more they are in the last word
  pub after-eight : 8 ≤ n → ltb (little_endian (part 9 8 v)) (256 ^ (n - 8)) ≡ all_zero (drop (1 + n) v)
  after-eight h =
      let e : 9 + (n - 8) ≡ 1 + n = omega arith in
      zero-above (n - 8) (part 9 8 v) (bytes_take 8 (drop 9 v) (bytes_drop 9 v b))
      ∙ ap (λ (l : List ℕ). all_zero (drop (n - 8) l)) last_word
      ∙ ap all_zero (drop-drop (n - 8) 9 v ∙ ap (λ (j : ℕ). drop j v) e)

  -- of fewer in both
  pub after_fewer : (t : Bool) → n < 8 → eqb (little_endian (part 9 8 v)) 0 ≡ t
      → all_zero (drop (1 + n) v) ≡ (ltb (little_endian (part 1 8 v)) (256 ^ n) && t)
  after_fewer t h z =
      let e : 1 + n + (8 - n) ≡ 9 = omega arith in
      let first : all_zero (take (8 - n) (drop (1 + n) v)) ≡ ltb (little_endian (part 1 8 v)) (256 ^ n) =
      sym (zero-above n (part 1 8 v) (bytes_take 8 (drop 1 v) (bytes_drop 1 v b))
      ∙ ap all_zero (drop-take n 8 (drop 1 v) ∙ ap (take (8 - n)) (drop-drop n 1 v))) in
      let rest : all_zero (drop (8 - n) (drop (1 + n) v)) ≡ t =
      ap all_zero (drop-drop (8 - n) (1 + n) v ∙ ap (λ (j : ℕ). drop j v) e ∙ sym last_word) ∙ zero_word (part 9 8 v) t z in
      zero-split (8 - n) (drop (1 + n) v) ∙ ap₂ ◌&&◌ first rest

-- The first k digits: in the first word, or in both.
module _ (v : List ℕ) (k : ℕ) (b : Bytes v) where
  pub before-eight : k < 8 → eqb (little_endian (part 1 8 v) % 256 ^ k) 0 ≡ all_zero (part 1 k v)
  before-eight h =
      zero-below k (part 1 8 v) (bytes_take 8 (drop 1 v) (bytes_drop 1 v b)) ∙ ap all_zero (take-take k 8 (drop 1 v) (omega arith))

  pub before_more : (t : Bool) → 8 ≤ k → k ≤ 16 → eqb (little_endian (part 1 8 v)) 0 ≡ t
      → all_zero (part 1 k v) ≡ (t && eqb (little_endian (part 9 8 v) % 256 ^ (k - 8)) 0)
  before_more t h few z =
      let first : all_zero (take 8 (part 1 k v)) ≡ t = ap all_zero (take-take 8 k (drop 1 v) h) ∙ zero_word (part 1 8 v) t z in
      let rest : all_zero (drop 8 (part 1 k v)) ≡ eqb (little_endian (part 9 8 v) % 256 ^ (k - 8)) 0 =
      sym (zero-below (k - 8) (part 9 8 v) (bytes_take 8 (drop 9 v) (bytes_drop 9 v b))
      ∙ ap all_zero (take-take (k - 8) 8 (drop 9 v) (omega arith)
      ∙ ap (take (k - 8)) (sym (drop-drop 8 1 v)) ∙ sym (drop-take 8 k (drop 1 v)))) in
      zero-split 8 (part 1 k v) ∙ ap₂ ◌&&◌ first rest
