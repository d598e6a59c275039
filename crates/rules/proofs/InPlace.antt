-- A stored key compared part by part with one of a frame is compared with its shortest form: each part of a shortest form has the place of
-- the part that it is of. Assumes nothing.
use Prim.Native.Nat.{ℕ, zero, suc, ◌*◌, ◌≤◌}
use mathlib.Core.Path.{◌≡◌, refl, sym, ap, ap₂, ◌∙◌}
use mathlib.Core.Bool.{true, ◌&&◌, and_assoc}
use mathlib.Core.Logic.{◌↔◌}
use mathlib.Core.List.{List, [], ◌∷◌, ◌++◌, map}
use native.Mathlib.Omega.{arith}
use lib.Dec.{eqb}
use lib.ListN.{length, take, drop, length-drop, take-append-drop}
use lib.Seq.{take_all, drop-drop, drop-cons}
use Rattle.rules.specs.Bytes.{part, parts, concat, same}
use Rattle.rules.specs.Value.{short}
use Rattle.rules.specs.Key.{kind, value1, value2, pairwise, slots, short_slot, short_key, same_value, same_slot, same_key}
use Rattle.rules.specs.Keys.{KeysInPlace}
use Rattle.rules.proofs.Tests.{same_true, eq-same}
use Rattle.rules.proofs.Shortest.{part_length, first-length, others-fit, short-length, value1-length, slot-length}
use Rattle.rules.proofs.Numbers.{short_key-parts, keys-same}

-- lists that begin with as many bytes each are compared in two steps
pub same-append : (a b x y : List ℕ) → length a ≡ length b → same (a ++ x) (b ++ y) ≡ (same a b && same x y)
same-append [] [] x y l = refl
same-append [] (c ∷ b) x y l = absurd (omega arith)
same-append (c ∷ a) [] x y l = absurd (omega arith)
same-append (c ∷ a) (d ∷ b) x y l =
    ap (◌&&◌ (eqb c d)) (same-append a b x y (omega arith)) ∙ sym (and_assoc (eqb c d) (same a b) (same x y))

-- a slot is its kind and two values
slot-split : (s : List ℕ) → length s ≡ 35 → s ≡ (kind s ∷ []) ++ (value1 s ++ value2 s)
slot-split s h =
    let l : length (drop 18 s) ≤ 17 = simp length-drop (omega arith) in
    let v : value1 s ++ value2 s ≡ drop 1 s =
    ap (λ (x : List ℕ). value1 s ++ x) (take_all 17 (drop 18 s) l ∙ sym (drop-drop 17 1 s)) ∙ take-append-drop 17 (drop 1 s) in
    drop-cons s 0 0 (omega arith) ∙ ap (λ (x : List ℕ). kind s ∷ x) (sym v)

pub slot-compared : (e s : List ℕ) → length e ≡ 35 → length s ≡ 35 → same_slot e s ≡ same e (short_slot s)
unfolding same_slot same_value short_slot
slot-compared e s h g =
    let l : length (value1 e) ≡ length (short (value1 s)) = value1-length e h ∙ sym (short-length (value1 s) (value1-length s g)) in
    sym (ap (λ (x : List ℕ). same x (kind s ∷ short (value1 s) ++ short (value2 s))) (slot-split e h)
    ∙ ap (◌&&◌ (eqb (kind e) (kind s))) (same-append (value1 e) (short (value1 s)) (value2 e) (short (value2 s)) l))

-- n slots
slots-compared : (n : ℕ) (e k : List ℕ) → length e ≡ n * 35 → n * 35 ≤ length k
    → pairwise same_slot (parts n 35 e) (parts n 35 k) ≡ same e (concat (map short_slot (parts n 35 k)))
unfolding parts
slots-compared zero [] k h g = refl
slots-compared zero (x ∷ e) k h g = absurd (omega arith)
slots-compared (suc n) e k h g =
    let a : length (take 35 e) ≡ 35 = first-length n 35 e (omega arith) in
    let b : length (take 35 k) ≡ 35 = first-length n 35 k g in
    let l : length (drop 35 e) ≡ n * 35 = simp length-drop (omega arith) in
    let others : List ℕ = concat (map short_slot (parts n 35 (drop 35 k))) in
    let more = slots-compared n (drop 35 e) (drop 35 k) l (others-fit n 35 k g) in
    ap₂ ◌&&◌ (slot-compared (take 35 e) (take 35 k) a b) more
    ∙ sym (same-append (take 35 e) (short_slot (take 35 k)) (drop 35 e) others (a ∙ sym (slot-length (take 35 k) b)))
    ∙ ap (λ (x : List ℕ). same x (short_slot (take 35 k) ++ others)) (take-append-drop 35 e)

-- a key is its table, its priority and its slots
key_split : (e : List ℕ) → e ≡ part 0 4 e ++ (part 4 4 e ++ drop 8 e)
key_split e =
    sym (ap (λ (x : List ℕ). part 0 4 e ++ x) (ap (λ (x : List ℕ). part 4 4 e ++ x) (sym (drop-drop 4 4 e)) ∙ take-append-drop 4 (drop 4 e))
    ∙ take-append-drop 4 e)

-- the comparison is with the shortest form, whatever follows the key in a frame
pub key-compared : (e k : List ℕ) → length e ≡ 148 → 148 ≤ length k → same_key e k ≡ same e (short_key k)
unfolding same_key
key-compared e k h g =
    let rest : List ℕ = concat (map short_slot (slots k)) in
    let l : length (drop 8 e) ≡ 4 * 35 = simp length-drop (omega arith) in
    let m : 4 * 35 ≤ length (drop 8 k) = simp length-drop (omega arith) in
    let t : length (part 0 4 e) ≡ length (part 0 4 k) = part_length 0 4 e (omega arith) ∙ sym (part_length 0 4 k (omega arith)) in
    let p : length (part 4 4 e) ≡ length (part 4 4 k) = part_length 4 4 e (omega arith) ∙ sym (part_length 4 4 k (omega arith)) in
    sym (ap₂ same (key_split e) (short_key-parts k)
    ∙ same-append (part 0 4 e) (part 0 4 k) (part 4 4 e ++ drop 8 e) (part 4 4 k ++ rest) t
    ∙ ap (◌&&◌ (same (part 0 4 e) (part 0 4 k)))
    (same-append (part 4 4 e) (part 4 4 k) (drop 8 e) rest p
    ∙ ap (◌&&◌ (same (part 4 4 e) (part 4 4 k))) (sym (slots-compared 4 (drop 8 e) (drop 8 k) l m))))

pub keys-in-place : KeysInPlace
keys-in-place e k h g = record {
  any = c ∙ ap (λ (x : List ℕ). same x (short_key k)) (sym (take_all 148 e (omega arith)));
  shortest = by;
  numbers = λ row p q a b own.
      let r = keys-same row e k h g p q a b in
      (λ y. r.1 ((by own).0 y), λ n. (by own).1 (r.0 n));
}
  where
    c : same_key e k ≡ same e (short_key k)
    c = key-compared e k h (omega arith)

    by : short_key e ≡ e → (same_key e k ≡ true) ↔ (short_key e ≡ short_key k)
    by own = (λ y. own ∙ same_true e (short_key k) (sym c ∙ y), λ s. c ∙ eq-same (sym own ∙ s))
