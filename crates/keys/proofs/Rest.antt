-- Each slot of a shortest form has the place of the slot that it is of, so that slots, values and words are compared one by one.
-- Assumes nothing.
use Rattle.std.specs.List.{list_all, zip, find, range_with_len}
use Rattle.std.specs.Prelude.{Option, Some, None, is_none, option_map}
use Rattle.std.specs.Simd.{first_chunks}
use Prim.Native.Nat.{ℕ, zero, suc, ◌+◌, ◌*◌, ◌≤◌, ◌<◌}
use native.Mathlib.Omega.{arith}
use mathlib.Core.Path.{◌≡◌, refl, sym, ap, ap₂, ◌∙◌}
use mathlib.Core.Bool.{Bool, true, false, not, ◌&&◌}
use mathlib.Core.Logic.{⊎_elim}
use mathlib.Core.List.{List, [], ◌∷◌, ◌++◌, map}
use lib.ListN.{length, take, drop, length-append, length-drop, drop_of_length-le}
use lib.Seq.{take_at, take_all, drop_at, drop-drop}
use Rattle.rules.specs.Bytes.{concat, part, parts, same}
use Rattle.rules.specs.Value.{short}
use Rattle.rules.specs.Key.{slots, short_slot, short_key, same_slot, same_key}
use Rattle.rules.proofs.Tests.{same_refl}
use Rattle.rules.proofs.Lists.{drop-map, parts_from, part-part}
use Rattle.rules.proofs.Shortest.{part_length, parts-length, parts-map, slot-length, value1-of-short, value2-of-short}
use Rattle.rules.proofs.Numbers.{short_key-parts}
use Rattle.rules.proofs.InPlace.{slot-compared, key-compared}
use Rattle.buffers.proofs.Words.{same-split}
use Rattle.keys.specs.Rest.{short_rest, ValueAt}

-- ---- slots as arrays

-- a slice read as arrays of one length is its parts
pub chunks-parts : (n w : ℕ) (l : List ℕ) → first_chunks w n l ≡ parts n w l
unfolding parts
chunks-parts zero w l = refl
chunks-parts (suc n) w l = ap (λ (ps : List (List ℕ)). take w l ∷ ps) (chunks-parts n w (drop w l))

-- ---- the shortest form

slots-fit : (r : List ℕ) → length r ≡ 144 → 4 * 35 ≤ length (drop 4 r)
slots-fit r h = simp length-drop (omega arith)

-- a key is its table and what follows it
pub short-key : (t r : List ℕ) → length t ≡ 4 → length r ≡ 144 → short_key (t ++ r) ≡ t ++ short_rest r
unfolding short_rest
short-key t r l h =
    let a : part 0 4 (t ++ r) ≡ t = take_at t r 4 l in
    let b : drop 4 (t ++ r) ≡ r = drop_at t r 4 l in
    let c : drop 8 (t ++ r) ≡ drop 4 r = sym (drop-drop 4 4 (t ++ r)) ∙ ap (drop 4) b in
    short_key-parts (t ++ r)
    ∙ ap₂ (λ (x y : List ℕ). x ++ (take 4 y ++ concat (map short_slot (slots (t ++ r))))) a b
    ∙ ap (λ (x : List ℕ). t ++ (take 4 r ++ concat (map short_slot (parts 4 35 x)))) c

pub rest-length : (r : List ℕ) → length r ≡ 144 → length (short_rest r) ≡ 144
unfolding short_rest
rest-length r h =
    length-append (take 4 r) (concat (map short_slot (parts 4 35 (drop 4 r))))
    ∙ ap₂ ◌+◌ (part_length 0 4 r (omega arith)) (parts-length short_slot 35 slot-length 4 (drop 4 r) (slots-fit r h))

pub priority-kept : (r : List ℕ) → length r ≡ 144 → take 4 (short_rest r) ≡ take 4 r
unfolding short_rest
priority-kept r h = take_at (take 4 r) (concat (map short_slot (parts 4 35 (drop 4 r)))) 4 (part_length 0 4 r (omega arith))

-- slot i is the shortest form of slot i
pub slot_at : (r : List ℕ) (i : ℕ) → length r ≡ 144 → i < 4 → part (35 * i + 4) 35 (short_rest r) ≡ short_slot (part (35 * i + 4) 35 r)
unfolding short_rest
slot_at r i h few =
    let l : List ℕ = drop 4 r in
    let c : List ℕ = concat (map short_slot (parts 4 35 l)) in
    let swap : 4 + 35 * i ≡ 35 * i + 4 = omega arith in
    let front : drop (35 * i + 4) (take 4 r ++ c) ≡ drop (35 * i) c =
    ap (λ (j : ℕ). drop j (take 4 r ++ c)) (sym swap) ∙ sym (drop-drop (35 * i) 4 (take 4 r ++ c))
    ∙ ap (drop (35 * i)) (drop_at (take 4 r) c 4 (part_length 0 4 r (omega arith))) in
    let both : part (35 * i) 35 c ∷ drop (i + 1) (parts 4 35 c) ≡ short_slot (part (35 * i) 35 l) ∷ map short_slot (drop (i + 1) (parts 4 35 l)) =
    sym (parts_from i 4 35 c few) ∙ ap (drop i) (parts-map short_slot 35 slot-length 4 l (slots-fit r h))
    ∙ drop-map short_slot i (parts 4 35 l) ∙ ap (map short_slot) (parts_from i 4 35 l few) in
    let first : part (35 * i) 35 c ≡ short_slot (part (35 * i) 35 l) = cc in
    ap (take 35) front ∙ first ∙ ap (λ (x : List ℕ). short_slot (take 35 x)) (drop-drop (35 * i) 4 r ∙ ap (λ (j : ℕ). drop j r) swap)

-- and a value in it of the value at its place
pub value-at : (r : List ℕ) (at from : ℕ) → length r ≡ 144 → ValueAt at → from + 8 ≤ 17
    → part (at + from) 8 (short_rest r) ≡ part from 8 (short (part at 17 r))
value-at r at from h v inside = ⊎_elim (λ e. first e) (λ e. second e) v.place
  where
    i : ℕ
    i = v.slot

    a : ℕ
    a = 35 * i + 4

    few : i < 4
    few = v.few

    slot : List ℕ
    slot = part a 35 r

    l : length slot ≡ 35
    l = part_length a 35 r (omega arith)

    within : (k : ℕ) → k + 17 ≤ 35 → part (a + k + from) 8 (short_rest r) ≡ part from 8 (part k 17 (short_slot slot))
    within k fits =
        sym (ap (λ (x : List ℕ). part from 8 (part k 17 x)) (sym (slot_at r i h few))
        ∙ ap (part from 8) (part-part a 35 k 17 (short_rest r) fits)
        ∙ part-part (a + k) 17 from 8 (short_rest r) inside)

    first : at ≡ 35 * i + 5 → part (at + from) 8 (short_rest r) ≡ part from 8 (short (part at 17 r))
    first e =
        let p : at ≡ a + 1 = omega arith in
        rw p
        (within 1 (omega arith) ∙ ap (part from 8) (value1-of-short slot l)
        ∙ ap (λ (x : List ℕ). part from 8 (short x)) (part-part a 35 1 17 r (omega arith)))

    second : at ≡ 35 * i + 22 → part (at + from) 8 (short_rest r) ≡ part from 8 (short (part at 17 r))
    second e =
        let p : at ≡ a + 18 = omega arith in
        rw p
        (within 18 (omega arith) ∙ ap (part from 8) (value2-of-short slot l)
        ∙ ap (λ (x : List ℕ). part from 8 (short x)) (part-part a 35 18 17 r (omega arith)))

pub value-inside : (at : ℕ) → ValueAt at → (5 ≤ at) × (at + 17 ≤ 144)
value-inside at v = let f = v.few in ⊎_elim (λ e. (omega arith, omega arith)) (λ e. (omega arith, omega arith)) v.place

-- ---- compared slot by slot

-- what is left to be compared before slot i
abbrev pub left : List ℕ → List ℕ → ℕ → Bool
left x r i = same (drop (35 * i + 4) x) (drop (35 * i + 4) (short_rest r))

module _ (x r : List ℕ) (size : length x ≡ 144) (h : length r ≡ 144) where
  pub left-next : (i : ℕ) (b : Bool) → i < 4 → same (part (35 * i + 4) 35 x) (short_slot (part (35 * i + 4) 35 r)) ≡ b
      → left x r i ≡ (b && left x r (i + 1))
  left-next i b few e =
      let a : ℕ = 35 * i + 4 in
      let lx : 35 ≤ length (drop a x) = simp length-drop (omega arith) in
      let ls : 35 ≤ length (drop a (short_rest r)) = simp length-drop (omega (arith, rest-length r h)) in
      let n : a + 35 ≡ 35 * (i + 1) + 4 = omega arith in
      same-split 35 (drop a x) (drop a (short_rest r)) lx ls
      ∙ ap₂ ◌&&◌ (ap (same (part a 35 x)) (slot_at r i h few) ∙ e)
      (ap₂ same (drop-drop 35 a x ∙ ap (λ (j : ℕ). drop j x) n) (drop-drop 35 a (short_rest r) ∙ ap (λ (j : ℕ). drop j (short_rest r)) n))

  -- by the comparison of slot i
  pub left-slot : (i n : ℕ) (b : Bool) → i < 4 → n ≡ 35 → same_slot (part (35 * i + 4) n x) (part (35 * i + 4) n r) ≡ b
      → left x r i ≡ (b && left x r (i + 1))
  left-slot i n b few w e =
      let a : ℕ = 35 * i + 4 in
      left-next i b few
      (sym (slot-compared (part a 35 x) (part a 35 r) (part_length a 35 x (omega arith)) (part_length a 35 r (omega arith)))
      ∙ ap (λ (m : ℕ). same_slot (part a m x) (part a m r)) (sym w) ∙ e)

  pub left-none : (i : ℕ) → 4 ≤ i → left x r i ≡ true
  left-none i e =
      let a : drop (35 * i + 4) x ≡ [] = drop_of_length-le x {i = 35 * i + 4} (omega arith) in
      let b : drop (35 * i + 4) (short_rest r) ≡ [] = drop_of_length-le (short_rest r) {i = 35 * i + 4} (omega (arith, rest-length r h)) in
      ap₂ same a b

  -- priority, then slots
  pub rest-compared : same x (short_rest r) ≡ (same (take 4 x) (take 4 r) && left x r 0)
  rest-compared =
      same-split 4 x (short_rest r) (omega arith) (omega (arith, rest-length r h))
      ∙ ap (λ (l : List ℕ). same (take 4 x) l && left x r 0) (priority-kept r h)

-- the slots, pair by pair
pub pairs-compared : (x r : List ℕ) (n i : ℕ) → length x ≡ 144 → length r ≡ 144 → i + n ≡ 4
    → list_all (λ (p : List ℕ × List ℕ). same_slot p.0 p.1) (zip (parts n 35 (drop (35 * i + 4) x)) (parts n 35 (drop (35 * i + 4) r))) ≡ left x r i
unfolding parts
pairs-compared x r zero i size h e = sym (left-none x r size h i (omega arith))
pairs-compared x r (suc n) i size h e =
    let next : 35 * i + 4 + 35 ≡ 35 * (i + 1) + 4 = omega arith in
    let a : drop 35 (drop (35 * i + 4) x) ≡ drop (35 * (i + 1) + 4) x = drop-drop 35 (35 * i + 4) x ∙ ap (λ (j : ℕ). drop j x) next in
    let b : drop 35 (drop (35 * i + 4) r) ≡ drop (35 * (i + 1) + 4) r = drop-drop 35 (35 * i + 4) r ∙ ap (λ (j : ℕ). drop j r) next in
    rw (a, b, pairs-compared x r n (i + 1) size h (omega arith)) (sym (left-slot x r size h i 35 _ (omega arith) refl refl))

-- a list is compared with itself one by one
pub alone : (f : List ℕ → List ℕ → Bool) (l : List (List ℕ))
    → list_all (λ (p : List ℕ × List ℕ). f p.0 p.1) (zip l l) ≡ list_all (λ (s : List ℕ). f s s) l
alone f [] = refl
alone f (s ∷ l) = ap (λ (b : Bool). f s s && b) (alone f l)

-- the slots of a key are in shortest form where the key is
pub slots-short : (r : List ℕ) → length r ≡ 144 → list_all (λ (s : List ℕ). same_slot s s) (parts 4 35 (drop 4 r)) ≡ same r (short_rest r)
slots-short r h =
    sym (alone same_slot (parts 4 35 (drop 4 r))) ∙ pairs-compared r r 4 0 h h refl
    ∙ sym (rest-compared r r h h ∙ ap (λ (b : Bool). b && left r r 0) (same_refl (take 4 r)))

-- ---- compared word by word

-- whether word k of one is not that of the other
abbrev pub Differs : List ℕ → List ℕ → ℕ → Bool
Differs x y k = not (same (part (8 * k) 8 x) (part (8 * k) 8 y))

-- of n words from word a on, none is found to differ where all of them are the same
pub words-compared : (x y : List ℕ) (n a : ℕ) → length x ≡ 8 * (a + n) → length y ≡ 8 * (a + n)
    → is_none (find (Differs x y) (range_with_len a n)) ≡ same (drop (8 * a) x) (drop (8 * a) y)
words-compared x y zero a h g =
    let p : drop (8 * a) x ≡ [] = drop_of_length-le x {i = 8 * a} (omega arith) in
    let q : drop (8 * a) y ≡ [] = drop_of_length-le y {i = 8 * a} (omega arith) in
    sym (ap₂ same p q)
words-compared x y (suc n) a h g =
    go (same (part (8 * a) 8 x) (part (8 * a) 8 y)) refl (words-compared x y n (a + 1) (omega arith) (omega arith))
  where
    next : 8 * a + 8 ≡ 8 * (a + 1)
    next = omega arith

    split : same (drop (8 * a) x) (drop (8 * a) y) ≡ (same (part (8 * a) 8 x) (part (8 * a) 8 y) && same (drop (8 * (a + 1)) x) (drop (8 * (a + 1)) y))
    split =
        let p : 8 ≤ length (drop (8 * a) x) = simp length-drop (omega arith) in
        let q : 8 ≤ length (drop (8 * a) y) = simp length-drop (omega arith) in
        same-split 8 (drop (8 * a) x) (drop (8 * a) y) p q
        ∙ ap (λ (b : Bool). same (part (8 * a) 8 x) (part (8 * a) 8 y) && b)
        (ap₂ same (drop-drop 8 (8 * a) x ∙ ap (λ (j : ℕ). drop j x) next) (drop-drop 8 (8 * a) y ∙ ap (λ (j : ℕ). drop j y) next))

    go : (t : Bool) → same (part (8 * a) 8 x) (part (8 * a) 8 y) ≡ t
        → is_none (find (Differs x y) (range_with_len (a + 1) n)) ≡ same (drop (8 * (a + 1)) x) (drop (8 * (a + 1)) y)
        → is_none (find (Differs x y) (range_with_len a (suc n))) ≡ same (drop (8 * a) x) (drop (8 * a) y)
    go true e more = rw (split, e) more
    go false e more = rw (split, e) refl

-- what a map leaves, it leaves nothing where there is nothing
pub none-mapped : (o : Option ℕ) → is_none (option_map (λ (k : ℕ). k) o) ≡ is_none o
none-mapped None = refl
none-mapped (Some k) = refl

-- ---- a whole key

-- table, then what follows it
pub whole-compared : (e t r : List ℕ) → length e ≡ 148 → length t ≡ 4 → length r ≡ 144
    → same_key e (t ++ r) ≡ (same (part 0 4 e) t && same (part 4 144 e) (short_rest r))
whole-compared e t r h l g =
    let n : 148 ≤ length (t ++ r) = simp length-append (omega arith) in
    let s : length (t ++ short_rest r) ≡ 148 = length-append t (short_rest r) ∙ omega (arith, rest-length r g) in
    let d : length (drop 4 e) ≤ 144 = simp length-drop (omega arith) in
    key-compared e (t ++ r) h n ∙ ap (same e) (short-key t r l g)
    ∙ same-split 4 e (t ++ short_rest r) (omega arith) (omega arith)
    ∙ ap₂ (λ (x y : List ℕ). same (part 0 4 e) x && same (drop 4 e) y) (take_at t (short_rest r) 4 l) (drop_at t (short_rest r) 4 l)
    ∙ ap (λ (x : List ℕ). same (part 0 4 e) t && same x (short_rest r)) (sym (take_all 144 (drop 4 e) d))

-- where the table is the same: what follows it
pub same-table : (e t r : List ℕ) → length e ≡ 148 → length t ≡ 4 → length r ≡ 144 → same (part 0 4 e) t ≡ true
    → same_key e (t ++ r) ≡ same (part 4 144 e) (short_rest r)
same-table e t r size four long table = whole-compared e t r size four long ∙ ap (λ (b : Bool). b && same (part 4 144 e) (short_rest r)) table

-- and of that first the priority, then the slots
pub by-priority : (e t r : List ℕ) → length e ≡ 148 → length t ≡ 4 → length r ≡ 144 → same (part 0 4 e) t ≡ true
    → same_key e (t ++ r) ≡ (same (take 4 (part 4 144 e)) (take 4 r) && left (part 4 144 e) r 0)
by-priority e t r size four long table =
    same-table e t r size four long table ∙ rest-compared (part 4 144 e) r (part_length 4 144 e (omega arith)) long
