-- Bytes replaced in place: what is written over them is their shortest form, and the others are as they were. Assumes nothing.
use Prim.Native.Nat.{ℕ, suc, ◌+◌, ◌-◌, ◌*◌, ◌≤◌}
use native.Mathlib.Nat.{zero-mul}
use native.Mathlib.Omega.{arith}
use mathlib.Core.Path.{◌≡◌, refl, sym, ap, ap₂, ◌∙◌}
use mathlib.Core.List.{List, [], ◌∷◌, ◌++◌, map, append_assoc}
use lib.ListN.{length, take, drop, set, replicate, length-append, length-drop, length-set, length-replicate, take-append-drop}
use lib.Seq.{take_all, take-append_seam, take-append-le, drop-append-le, drop_at, drop-drop, drop-set-lt, set-get_or}
use Rattle.rules.specs.Bytes.{concat, byte, part, parts}
use Rattle.rules.specs.Value.{padded, short}
use Rattle.rules.specs.Key.{kind, short_slot, short_key}
use Rattle.rules.specs.Entry.{parameters, short_entry}
use Rattle.rules.proofs.Lists.{part-part}
use Rattle.rules.proofs.Shortest.{part_length, short-length, key-length, key-of-key, key-of-short}
use Rattle.buffers.specs.Splice.{splice}
use Rattle.buffers.proofs.Splice.{splice-none, splice_front, splice-set, splice-next, window-splice, splice-same, splice-over}
use Rattle.buffers.proofs.Splice.{splice-within, splice-end, splice-before, part-before}
use Rattle.values.proofs.Digits.{first_byte}

-- ---- parts, the last first

-- out is d, with f of each of the n parts of k from place b on, of w bytes, in the place that the part has in k
pub record Replaced (f : List ℕ → List ℕ) (w : ℕ) (k d : List ℕ) (b n : ℕ) (out : List ℕ) : Type 0 where
  pub width : length (concat (map f (parts n w (drop b k)))) ≡ n * w
  pub bytes : out ≡ splice d b (concat (map f (parts n w (drop b k))))

pub replaced-none : (f : List ℕ → List ℕ) (w : ℕ) (k d : List ℕ) (b : ℕ) → Replaced f w k d b 0 d
unfolding parts
replaced-none f w k d b = record { width = sym (zero-mul w); bytes = splice-none d b }

-- d is what there was before with k copied to its start
module _ (f : List ℕ → List ℕ) (w : ℕ) (k before d : List ℕ) (copied : d ≡ splice before 0 k) where
  -- one part more, before the others, where f keeps the length
  pub replaced-next : ((x : List ℕ) → length x ≡ w → length (f x) ≡ w) → (b at n m : ℕ) (out next : List ℕ) → b ≡ at + w → m ≡ suc n
      → b + n * w ≤ length k → Replaced f w k d b n out → next ≡ splice out at (f (part at w out)) → Replaced f w k d at m next
  unfolding parts
  replaced-next keeps b at n m out next eb em inside h new =
      let xs : List ℕ = concat (map f (parts n w (drop b k))) in
      let x : List ℕ = part at w k in
      let rest : List ℕ = drop (length k) before in
      let front : d ≡ k ++ rest = copied ∙ splice_front before k in
      let ld : length d ≡ length k + length rest = ap length front ∙ length-append k rest in
      let lw : length xs ≡ n * w = h.width in
      let lr : w ≤ length (drop at k) = simp length-drop (omega arith) in
      let lx : length (f x) ≡ w = keeps x (part_length at w k (omega arith)) in
      let there : part at w out ≡ x =
      ap (part at w) h.bytes
      ∙ part-before d xs at w b (omega arith) (omega arith)
      ∙ ap (take w) (ap (drop at) front ∙ drop-append-le at k rest (omega arith)) ∙ take-append-le w (drop at k) rest lr in
      let e : concat (map f (parts (suc n) w (drop at k))) ≡ f x ++ xs =
      ap (λ (l : List ℕ). f x ++ concat (map f (parts n w l))) (drop-drop w at k ∙ ap (λ (j : ℕ). drop j k) (sym eb)) in
      rw em
      (record {
        width = ap length e ∙ length-append (f x) xs ∙ omega arith;
        bytes =
            new ∙ ap₂ (λ (y z : List ℕ). splice y at (f z)) h.bytes there
            ∙ splice-before d at b xs (f x) (omega arith) (omega arith) ∙ ap (splice d at) (sym e);
      })

  pub replaced-all : (b n : ℕ) (out : List ℕ) → b + n * w ≡ length k → Replaced f w k d b n out
      → out ≡ splice before 0 (take b k ++ concat (map f (parts n w (drop b k))))
  replaced-all b n out e h =
      let xs : List ℕ = concat (map f (parts n w (drop b k))) in
      let lw : length xs ≡ n * w = h.width in
      h.bytes ∙ ap (λ (x : List ℕ). splice x b xs) copied ∙ splice-within before k b xs (omega arith)
      ∙ ap (splice before 0) (splice-end k b xs (omega arith))

-- ---- a value, a slot, a key, an action

-- a count before n digits, and zeros after them
pub pad-in-place : (d : List ℕ) (at n : ℕ) → n ≤ 16 → at + 17 ≤ length d
    → splice (set d at n) (at + n + 1) (replicate (16 - n) 0) ≡ splice d at (padded (part (at + 1) n d))
pad-in-place d at n few room =
    let ds : List ℕ = part (at + 1) n d in
    let l : length ds ≡ n = part_length (at + 1) n d (omega arith) in
    let ls : length (set d at n) ≡ length d = length-set d at n in
    let kept : part (at + 1) n (set d at n) ≡ ds = ap (take n) (drop-set-lt (at + 1) d at n (omega arith)) in
    let front : set d at n ≡ splice d at (n ∷ ds) =
    sym (splice-same (set d at n) (at + 1) n (omega arith))
    ∙ ap₂ (λ (x y : List ℕ). splice x (at + 1) y) (splice-set d at n (omega arith)) kept
    ∙ splice-next d at (at + 1) (n ∷ []) ds refl (omega arith) in
    ap (λ (x : List ℕ). splice x (at + n + 1) (replicate (16 - n) 0)) front
    ∙ splice-next d at (at + n + 1) (n ∷ ds) (replicate (16 - n) 0) (omega arith) (omega arith)
    ∙ ap (λ (m : ℕ). splice d at (m ∷ ds ++ replicate (16 - m) 0)) (sym l)

-- digits moved to their place, then padded
pub value-in-place : (d ds : List ℕ) (at : ℕ) → length ds ≤ 16 → at + 17 ≤ length d
    → splice (splice d (at + 1) ds) at (padded (part (at + 1) (length ds) (splice d (at + 1) ds))) ≡ splice d at (padded ds)
value-in-place d ds at few room =
    let l : length (padded ds) ≡ 17 = simp (length-append, length-replicate) (omega arith) in
    let e : part (at + 1) (length ds) (splice d (at + 1) ds) ≡ ds =
    ap (take (length ds)) (window-splice d (at + 1) ds (omega arith))
    ∙ take-append_seam ds (drop (at + 1 + length ds) d) in
    rw e (splice-over d (at + 1) at ds (padded ds) (omega arith) (omega arith) (omega arith))

-- the two values after a kind, each in its place, the second first
pub slot-in-place : (d d₁ d₂ : List ℕ) (at : ℕ) → at + 35 ≤ length d
    → d₁ ≡ splice d (at + 18) (short (part (at + 18) 17 d)) → d₂ ≡ splice d₁ (at + 1) (short (part (at + 1) 17 d₁))
    → d₂ ≡ splice d at (short_slot (part at 35 d))
unfolding short_slot
slot-in-place d d₁ d₂ at room e₁ e₂ =
    let k : ℕ = kind (part at 35 d) in
    let x : List ℕ = short (part (at + 1) 17 d) in
    let y : List ℕ = short (part (at + 18) 17 d) in
    let lx : length x ≡ 17 = short-length (part (at + 1) 17 d) (part_length (at + 1) 17 d (omega arith)) in
    let ly : length y ≡ 17 = short-length (part (at + 18) 17 d) (part_length (at + 18) 17 d (omega arith)) in
    let ek : byte at d ≡ k = sym (first_byte at 35 d (omega arith)) in
    let kept : d ≡ splice d at (k ∷ []) =
    sym (set-get_or d at 0) ∙ ap (set d at) ek ∙ splice-set d at k (omega arith) in
    let other : part (at + 1) 17 d₁ ≡ part (at + 1) 17 d =
    ap (part (at + 1) 17) e₁ ∙ part-before d y (at + 1) 17 (at + 18) (omega arith) (omega arith) in
    e₂ ∙ ap₂ (λ (z u : List ℕ). splice z (at + 1) (short u)) e₁ other
    ∙ splice-before d (at + 1) (at + 18) y x (omega arith) (omega arith)
    ∙ ap (λ (z : List ℕ). splice z (at + 1) (x ++ y)) kept
    ∙ splice-next d at (at + 1) (k ∷ []) (x ++ y) refl (omega arith)
    ∙ ap₂ (λ (u v : List ℕ). splice d at (k ∷ short u ++ short v))
    (sym (part-part at 35 1 17 d (omega arith))) (sym (part-part at 35 18 17 d (omega arith)))

-- the key, the first 148 bytes of an entry
pub key-parts : (e : List ℕ)
    → take 8 (part 0 148 e) ++ concat (map short_slot (parts 4 35 (drop 8 (part 0 148 e)))) ≡ short_key e
unfolding short_key
key-parts e = key-of-key e

-- the action and its parameters, the last 72 bytes of an entry
pub action-parts : (e : List ℕ) → length e ≡ 220
    → take 4 (part 148 72 e) ++ concat (map short (parts 4 17 (drop 4 (part 148 72 e)))) ≡ drop 148 (short_entry e)
unfolding short_entry
action-parts e h =
    let l : length (drop 148 e) ≤ 72 = simp length-drop (omega arith) in
    rw (take_all 72 (drop 148 e) l, drop-drop 4 148 e, append_assoc)
    (sym (drop_at (short_key e) (part 148 4 e ++ concat (map short (parameters e))) 148 (key-length e (omega arith))))

-- an entry is its key and what comes after it
pub entry-parts : (e : List ℕ) → length e ≡ 220 → short_key e ++ drop 148 (short_entry e) ≡ short_entry e
entry-parts e h = rw (← key-of-short e h) (take-append-drop 148 (short_entry e))
