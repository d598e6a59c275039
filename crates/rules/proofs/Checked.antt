-- What passes 17, 18 and 19 passes them in shortest form: values stay values of the same numbers, and zeros stay zeros.
-- Assumes nothing.
use Rattle.std.specs.Prelude.{if◌then◌else◌}
use Prim.Native.Nat.{ℕ, zero, suc, ◌+◌, ◌*◌, ◌-◌, ◌≤◌}
use mathlib.Core.Path.{◌≡◌, refl, sym, ap, ap₂, ◌∙◌}
use mathlib.Core.Bool.{Bool, true, false, ◌&&◌, ◌||◌, not}
use mathlib.Core.List.{List, [], ◌∷◌, map}
use native.Mathlib.Omega.{arith}
use lib.Dec.{eqb}
use lib.ListN.{length, take, drop, replicate}
use lib.Seq.{drop_at}
use borrow.Author.Tests.{eqb-true, le-leb}
use Rattle.rules.specs.Bytes.{every, byte, parts, number, all_zero}
use Rattle.rules.specs.Row.{Field, Row}
use Rattle.rules.specs.Value.{is_value, fits, stripped, padded, short}
use Rattle.rules.specs.Key.{omitted, exact, optional, kind, value1, value2, slot_formed, slot_fits, slot_rule}
use Rattle.rules.specs.Key.{pairwise, pairwise_then_zeros, key_formed, key_fits, priority_rule, key_rules, short_slot}
use Rattle.rules.specs.Entry.{action_in, parameters, has_action, widths_of, action_formed, action_fits, passes, short_entry}
use Rattle.rules.proofs.Tests.{and-true, both_true, every_append, every-part}
use Rattle.rules.proofs.Shortest.{first-length, others-fit, stripped-some, digits, digits-length, short-unused, value-of-short}
use Rattle.rules.proofs.Shortest.{value1-length, value2-length, kind-of-short, value1-of-short, value2-of-short, slots-fit}
use Rattle.rules.proofs.Shortest.{slots-of-entry, priority-of-short, parameters-fit, action-of-short, parameters-of-short}
use Rattle.rules.proofs.Numbers.{short-value}

-- ---- parts under a test, where each of n parts of w bytes is replaced

module _ {A : Type 0} (f : List ℕ → List ℕ) (w : ℕ) (p : A → List ℕ → Bool) where
  pub pairwise-same : ((x : A) (s : List ℕ) → length s ≡ w → p x (f s) ≡ p x s) → (xs : List A) (n : ℕ) (l : List ℕ)
      → n * w ≤ length l → pairwise p xs (map f (parts n w l)) ≡ pairwise p xs (parts n w l)
  unfolding parts
  pairwise-same h [] n l fit = refl
  pairwise-same h (x ∷ xs) zero l fit = refl
  pairwise-same h (x ∷ xs) (suc n) l fit =
      rw (h x (take w l) (first-length n w l fit), pairwise-same h xs n (drop w l) (others-fit n w l fit))

  pub pairwise-kept : ((s : List ℕ) → all_zero s ≡ true → all_zero (f s) ≡ true)
      → ((x : A) (s : List ℕ) → length s ≡ w → p x s ≡ true → p x (f s) ≡ true) → (xs : List A) (n : ℕ) (l : List ℕ)
      → n * w ≤ length l → pairwise_then_zeros p xs (parts n w l) ≡ true → pairwise_then_zeros p xs (map f (parts n w l)) ≡ true
  unfolding parts
  pairwise-kept z h [] zero l fit a = refl
  pairwise-kept z h [] (suc n) l fit a =
      let b = and-true (all_zero (take w l)) (every all_zero (parts n w (drop w l))) a in
      both_true (z (take w l) b.0) (pairwise-kept z h [] n (drop w l) (others-fit n w l fit) b.1)
  pairwise-kept z h (x ∷ xs) zero l fit a = a
  pairwise-kept z h (x ∷ xs) (suc n) l fit a =
      let b = and-true (p x (take w l)) (pairwise_then_zeros p xs (parts n w (drop w l))) a in
      both_true (h x (take w l) (first-length n w l fit) b.0) (pairwise-kept z h xs n (drop w l) (others-fit n w l fit) b.1)

-- ---- values

first-zero : (v : List ℕ) → all_zero v ≡ true → byte 0 v ≡ 0
first-zero [] z = refl
first-zero (x ∷ v) z = sym (eqb-true 0 x (and-true (eqb 0 x) (all_zero v) z).0)

zeros-kept : (v : List ℕ) → all_zero v ≡ true → all_zero (short v) ≡ true
zeros-kept v z = rw (short-unused v (first-zero v z)) z

padding : (n : ℕ) → all_zero (replicate n 0) ≡ true
padding zero = refl
padding (suc n) = padding n

padded-value : (bs : List ℕ) → 1 ≤ length bs → length bs ≤ 16 → is_value (padded bs) ≡ true
unfolding is_value
padded-value bs some few =
    let n : ℕ = length bs in
    both_true (both_true (le-leb 1 n some) (le-leb n 16 few))
    (ap all_zero (drop_at (n ∷ bs) (replicate (16 - n) 0) (1 + n) (omega arith)) ∙ padding (16 - n))

value-kept : (v : List ℕ) → length v ≡ 17 → is_value v ≡ true → is_value (short v) ≡ true
value-kept v h due =
    ap is_value (short-value v due)
    ∙ padded-value (stripped (digits v)) (stripped-some (digits v)) (digits-length v (omega arith))

fits-same : (width : ℕ) (v : List ℕ) → fits width (short v) ≡ fits width v
unfolding fits
fits-same width v = rw (value-of-short v)

-- ---- slots

zero-slot : (s : List ℕ) → all_zero s ≡ true → all_zero (short_slot s) ≡ true
unfolding short_slot
zero-slot s z =
    let first = zeros-kept (value1 s) (every-part (eqb 0) 1 17 s z) in
    let second = zeros-kept (value2 s) (every-part (eqb 0) 18 17 s z) in
    rw (first-zero s z) (every_append (eqb 0) (short (value1 s)) (short (value2 s)) first second)

formed-kept : (f : Field) (s : List ℕ) → length s ≡ 35 → slot_formed f s ≡ true → slot_formed f (short_slot s) ≡ true
unfolding slot_formed
formed-kept f s h a = rw (kind-of-short s, value1-of-short s h, value2-of-short s h) (go (eqb (kind s) omitted) a)
  where
    lone : Bool
    lone = eqb f.kind exact || eqb f.kind optional

    second : (b : Bool) → (if b then all_zero (value2 s) else is_value (value2 s)) ≡ true
        → (if b then all_zero (short (value2 s)) else is_value (short (value2 s))) ≡ true
    second true z = zeros-kept (value2 s) z
    second false v = value-kept (value2 s) (value2-length s h) v

    go : (b : Bool)
        → (if b then not (eqb f.kind exact) && all_zero s else
        eqb (kind s) f.kind && is_value (value1 s) && (if lone then all_zero (value2 s) else is_value (value2 s))) ≡ true
        → (if b then not (eqb f.kind exact) && all_zero (short_slot s) else
        eqb (kind s) f.kind && is_value (short (value1 s))
        && (if lone then all_zero (short (value2 s)) else is_value (short (value2 s)))) ≡ true
    go true t =
        let g = and-true (not (eqb f.kind exact)) (all_zero s) t in
        both_true g.0 (zero-slot s g.1)
    go false t =
        let g = and-true (eqb (kind s) f.kind && is_value (value1 s)) (if lone then all_zero (value2 s) else is_value (value2 s)) t in
        let k = and-true (eqb (kind s) f.kind) (is_value (value1 s)) g.0 in
        both_true (both_true k.0 (value-kept (value1 s) (value1-length s h) k.1)) (second lone g.1)

slot-fits : (f : Field) (s : List ℕ) → length s ≡ 35 → slot_fits f (short_slot s) ≡ slot_fits f s
unfolding slot_fits
slot-fits f s h =
    rw (kind-of-short s, value1-of-short s h, value2-of-short s h, fits-same f.width (value1 s), fits-same f.width (value2 s))

slot-rule : (f : Field) (s : List ℕ) → length s ≡ 35 → slot_rule f (short_slot s) ≡ slot_rule f s
unfolding slot_rule
slot-rule f s h =
    rw (kind-of-short s, value1-of-short s h, value2-of-short s h, value-of-short (value1 s), value-of-short (value2 s))

-- ---- entries

module _ (row : Row) (e : List ℕ) (l : length e ≡ 220) where
  slots-there : 4 * 35 ≤ length (drop 8 e)
  slots-there = slots-fit e (omega arith)

  key-formed : key_formed row e ≡ true → key_formed row (short_entry e) ≡ true
  unfolding key_formed
  key-formed a =
      rw (slots-of-entry e l) (pairwise-kept short_slot 35 slot_formed zero-slot formed-kept row.fields 4 (drop 8 e) slots-there a)

  key_fits_lem : key_fits row (short_entry e) ≡ key_fits row e
  unfolding key_fits
  key_fits_lem = rw (slots-of-entry e l) (pairwise-same short_slot 35 slot_fits slot-fits row.fields 4 (drop 8 e) slots-there)

  key-rules : key_rules row (short_entry e) ≡ key_rules row e
  unfolding key_rules
  key-rules =
      ap₂ ◌&&◌
      (ap (pairwise slot_rule row.fields) (slots-of-entry e l)
      ∙ pairwise-same short_slot 35 slot_rule slot-rule row.fields 4 (drop 8 e) slots-there)
      (ap (priority_rule row.fields) (priority-of-short e l))

  action-same : action_in (short_entry e) ≡ action_in e
  action-same = ap number (action-of-short e l)

  action-formed : action_formed row e ≡ true → action_formed row (short_entry e) ≡ true
  unfolding action_formed
  action-formed a =
      let ws : List ℕ = widths_of (action_in e) row.actions in
      let g = and-true (has_action (action_in e) row.actions) (pairwise_then_zeros (λ (width : ℕ). is_value) ws (parameters e)) a in
      rw (action-same, parameters-of-short e l)
      (both_true g.0
      (pairwise-kept short 17 (λ (width : ℕ). is_value) zeros-kept (λ width. value-kept) ws 4 (drop 152 e) (parameters-fit e l) g.1))

  action-fits : action_fits row (short_entry e) ≡ action_fits row e
  unfolding action_fits
  action-fits =
      rw (action-same, parameters-of-short e l)
      (pairwise-same short 17 fits (λ width v h. fits-same width v) (widths_of (action_in e) row.actions) 4 (drop 152 e) (parameters-fit e l))

  pub short-passes : passes row e ≡ true → passes row (short_entry e) ≡ true
  unfolding passes
  short-passes a =
      let b = and-true ((key_formed row e && action_formed row e) && (key_fits row e && action_fits row e)) (key_rules row e) a in
      let c = and-true (key_formed row e && action_formed row e) (key_fits row e && action_fits row e) b.0 in
      let d = and-true (key_formed row e) (action_formed row e) c.0 in
      both_true
      (both_true (both_true (key-formed d.0) (action-formed d.1)) (ap₂ ◌&&◌ key_fits_lem action-fits ∙ c.1))
      (key-rules ∙ b.1)
