-- What a line is made of, piece by piece: digits, bytes in hex, records, and the lengths of all of them. Assumes nothing.
use Rattle.std.specs.Prelude.{if◌then◌else◌}
use Rattle.std.specs.Fmt as library
use Rattle.std.proofs.Common.{◌≡◌, ℕ, zero, suc, ◌+◌, ◌*◌, ◌-◌, ◌/◌, ◌%◌, ◌^◌, ◌≤◌, ◌<◌, Bool, true, false, ltb, List, [], ◌∷◌, ◌++◌}
use Rattle.std.proofs.Common.{length, take, drop, get_or, refl, sym, ap, ◌∙◌, arith, append_assoc, length-append}
use Rattle.std.proofs.lemmas.Fmt.{AppendsLastDigit, decimal_from_appends, length-decimal-le}
use Rattle.std.proofs.lemmas.List.{take_more}
use native.Mathlib.Nat.{mul-suc}
use mathlib.Core.List.{append-nil}
use lib.ListN.{take-append-drop}
use lib.Seq.{drop-drop, take_all}
use borrow.Author.Tests.{lt-ltb, le-ltb}
use Rattle.rules.specs.Bytes.{part, parts}
use Rattle.rules.proofs.Formed.{EveryLength}
use Rattle.transcript.specs.Line.{digit, digits, decimal, hex, blank, field, records_hex}

-- ---- digits

pub digits-none : (n x : ℕ) → n ≡ 0 → digits n x ≡ []
unfolding digits
digits-none zero x e = refl
digits-none (suc n) x e = absurd (omega arith)

pub digits-one : (n x : ℕ) → (n ≡ 0 → ⊥) → x < 10 → digits n x ≡ digit x ∷ []
unfolding digits
digits-one zero x h l = absurd (h refl)
digits-one (suc n) x h l = rw (lt-ltb x 10 l)

pub digits_more : (n x : ℕ) → (n ≡ 0 → ⊥) → 10 ≤ x → digits n x ≡ digits (n - 1) (x / 10) ++ (digit (x % 10) ∷ [])
unfolding digits
digits_more zero x h l = absurd (h refl)
digits_more (suc n) x h l = let e : suc n - 1 ≡ n = omega arith in rw (e, le-ltb x 10 l)

-- a number of 64 bits is written as the library writes it
digits-appended : AppendsLastDigit digits
unfolding digits
digits-appended = record {
  one = λ n x l. rw (lt-ltb x 10 l);
  more = λ n x l. let m : x % 10 < 10 = omega arith in rw (le-ltb x 10 l, lt-ltb (x % 10) 10 m);
}

pub decimal_is : (x : ℕ) → x < 2 ^ 64 → decimal x ≡ library.decimal x
decimal_is x h = decimal_from_appends digits digits-appended 20 x h (length-decimal-le 20 x (omega arith) (omega arith) h)

pub digits-few : (n x : ℕ) → length (digits n x) ≤ n
unfolding digits
digits-few zero x = omega arith
digits-few (suc n) x = go (ltb x 10) (digits-few n (x / 10))
  where
    go : (t : Bool) → length (digits n (x / 10)) ≤ n
        → length (if t then digit x ∷ [] else digits n (x / 10) ++ (digit (x % 10) ∷ [])) ≤ suc n
    go true h = omega arith
    go false h = simp length-append (omega arith)

pub field-few : (x : ℕ) → length (field x) ≤ 21
field-few x = simp length-append (omega (arith, digits-few 20 x))

-- ---- bytes in hex

hex-append : (bs cs : List ℕ) → hex (bs ++ cs) ≡ hex bs ++ hex cs
unfolding hex
hex-append [] cs = refl
hex-append (b ∷ bs) cs = rw (hex-append bs cs)

-- the bytes so far, the next one, and those after it
pub hex-more : (bs : List ℕ) (i : ℕ) → i < length bs
    → hex (take (i + 1) bs) ≡ hex (take i bs) ++ (digit (get_or bs i 0 / 16) ∷ digit (get_or bs i 0 % 16) ∷ [])
unfolding hex
hex-more bs i h = ap hex (take_more bs i 0 h) ∙ hex-append (take i bs) (get_or bs i 0 ∷ [])

pub hex_split : (bs : List ℕ) (i : ℕ) → hex bs ≡ hex (take i bs) ++ hex (drop i bs)
hex_split bs i = ap hex (sym (take-append-drop i bs)) ∙ hex-append (take i bs) (drop i bs)

pub hex_all : (bs : List ℕ) (i : ℕ) → length bs ≤ i → hex (take i bs) ≡ hex bs
hex_all bs i h = ap hex (take_all i bs h)

pub hex-length : (bs : List ℕ) → length (hex bs) ≡ 2 * length bs
unfolding hex
hex-length [] = omega arith
hex-length (b ∷ bs) = omega (arith, hex-length bs)

-- ---- records

records-append : (rs qs : List (List ℕ)) → records_hex (rs ++ qs) ≡ records_hex rs ++ records_hex qs
unfolding records_hex
records-append [] qs = refl
records-append (r ∷ rs) qs =
    ap (λ (l : List ℕ). (blank ∷ hex r) ++ l) (records-append rs qs) ∙ sym (append_assoc (blank ∷ hex r) (records_hex rs) (records_hex qs))

parts-split : (i n w : ℕ) (l : List ℕ) → i ≤ n → parts n w l ≡ parts i w l ++ parts (n - i) w (drop (w * i) l)
unfolding parts
parts-split zero n w l h = let e : w * 0 ≡ 0 = omega arith in let k : n - 0 ≡ n = omega arith in rw (e, k)
parts-split (suc i) zero w l h = absurd (omega arith)
parts-split (suc i) (suc n) w l h =
    let e : w + w * i ≡ w * suc i = omega arith in
    let k : suc n - suc i ≡ n - i = omega arith in
    rw (k, ← e, ← drop-drop (w * i) w l) (ap (λ (x : List (List ℕ)). take w l ∷ x) (parts-split i n w (drop w l) (omega arith)))

-- the records so far and those after them
pub records-split : (i n w : ℕ) (l : List ℕ) → i ≤ n
    → records_hex (parts n w l) ≡ records_hex (parts i w l) ++ records_hex (parts (n - i) w (drop (w * i) l))
records-split i n w l h = ap records_hex (parts-split i n w l h) ∙ records-append (parts i w l) (parts (n - i) w (drop (w * i) l))

pub records-more : (i w : ℕ) (l : List ℕ)
    → records_hex (parts (i + 1) w l) ≡ records_hex (parts i w l) ++ (blank ∷ hex (part (w * i) w l))
unfolding records_hex parts
records-more i w l =
    let one : i + 1 - i ≡ 1 = omega arith in
    records-split i (i + 1) w l (omega arith)
    ∙ ap (λ (k : ℕ). records_hex (parts i w l) ++ records_hex (parts k w (drop (w * i) l))) one
    ∙ ap (λ (x : List ℕ). records_hex (parts i w l) ++ (blank ∷ x)) (append-nil (hex (part (w * i) w l)))

pub records-length : (w : ℕ) (rs : List (List ℕ)) → EveryLength w rs → length (records_hex rs) ≡ (1 + 2 * w) * length rs
unfolding records_hex
records-length w [] h = omega arith
records-length w (r ∷ rs) h =
    let e : length (hex r) ≡ 2 * length r = hex-length r in
    let m : length r ≡ w = h.0 in
    let t : length (records_hex rs) ≡ (1 + 2 * w) * length rs = records-length w rs h.1 in
    let s : (1 + 2 * w) * suc (length rs) ≡ (1 + 2 * w) * length rs + (1 + 2 * w) = mul-suc (1 + 2 * w) (length rs) in
    omega (arith, length-append (hex r) (records_hex rs))
