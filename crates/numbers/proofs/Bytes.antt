-- One more byte multiplies what comes before it by 256, so bytes read or written in parts are those of the whole. Assumes nothing.
use Prim.Native.Nat.{ℕ, zero, suc, ◌+◌, ◌*◌, ◌-◌, ◌/◌, ◌%◌, ◌^◌, ◌<◌, ◌≤◌}
use native.Mathlib.Nat.{add-zero, zero-add, pow-suc, pow-succ'}
use native.Mathlib.Nat.{div-one, div-div-eq-div-mul}
use native.Mathlib.Numerals.{add-one}
use native.Mathlib.Omega.{arith}
use mathlib.Core.Path.{◌≡◌, refl, sym, ap, ◌∙◌}
use mathlib.Core.List.{List, [], ◌∷◌, ◌++◌}
use lib.Arith.{digits_div}
use lib.ListN.{length, get_or, take, drop, length-drop}
use lib.Seq.{take-suc, take_all, get_or-drop}
use Rattle.std.specs.Int.{w128, from_be_bytes, byte_worth, byte_at, bytes_high_first, sum_through}
use Rattle.rules.specs.Bytes.{number_from, number, int, bytes_of}

-- ---- reading

from-append : (x : ℕ) (l m : List ℕ) → number_from x (l ++ m) ≡ number_from (number_from x l) m
unfolding number_from
from-append x [] m = refl
from-append x (b ∷ l) m = from-append (x * 256 + b) l m

pub int-none : (a : ℕ) (l : List ℕ) → int a 0 l ≡ 0
unfolding number_from
int-none a l = refl

-- one byte more
pub int-next : (a k : ℕ) (l : List ℕ) → a + k < length l → int a (k + 1) l ≡ int a k l * 256 + get_or l (a + k) 0
unfolding number_from
int-next a k l h =
    let m : List ℕ = drop a l in
    let g : k < length m = rw length-drop (omega arith) in
    rw (add-one, take-suc m k 0 g, ← get_or-drop a l k 0) (from-append 0 (take k m) (get_or m k 0 ∷ []))

-- past the end there are no more bytes to read
pub int-all : (a m n : ℕ) (l : List ℕ) → length l ≤ a + m → m ≤ n → int a m l ≡ int a n l
int-all a m n l h g =
    let d : length (drop a l) ≤ m = rw length-drop (omega arith) in
    ap number (take_all m (drop a l) d ∙ sym (take_all n (drop a l) (omega arith)))

-- the first bytes are all of them without the last k
pub int-front : (a n k : ℕ) (l : List ℕ) → ((i : ℕ) → get_or l i 0 < 256) → a + (n + k) ≤ length l
    → int a n l ≡ int a (n + k) l / 256 ^ k
int-front a n zero l b h = rw (add-zero, div-one)
int-front a n (suc k) l b h =
    let x : ℕ = int a (n + k) l in
    let y : ℕ = get_or l (a + (n + k)) 0 in
    let e : n + suc k ≡ n + k + 1 = omega arith in
    int-front a n k l b (omega arith)
    ∙ ap (λ (z : ℕ). z / 256 ^ k) (sym (digits_div x (b (a + (n + k)))))
    ∙ div-div-eq-div-mul (x * 256 + y) 256 (256 ^ k)
    ∙ sym (rw (e, int-next a (n + k) l (omega arith), pow-succ' 256 k))

-- k bytes and one more stay below the next power
pub below_next : (n x k : ℕ) → n < 256 ^ k → x < 256 → n * 256 + x < 256 ^ (k + 1)
below_next n x k h b = let p : 256 ^ (k + 1) ≡ 256 ^ k * 256 = rw add-one (pow-suc 256 k) in omega arith

worth-more : (i b : ℕ) → byte_worth (suc i) b ≡ 256 * byte_worth i b
worth-more zero b = omega arith
worth-more (suc i) b = rw (pow-suc 256 (suc i)) (omega arith)

sum-more : (f g : ℕ → ℕ) (k : ℕ) → ((i : ℕ) → i ≤ k → f i ≡ 256 * g i) → sum_through f k ≡ 256 * sum_through g k
sum-more f g zero e = e 0 (omega arith)
sum-more f g (suc k) e = omega (arith, sum-more f g k (λ i h. e i (omega arith)), e (suc k) (omega arith))

-- bytes by their place values, the highest first
placed : (n : ℕ) (b : List ℕ) → n < length b → sum_through (λ i. byte_worth (n - i) (get_or b i 0)) n ≡ int 0 (n + 1) b
placed zero b h = omega (arith, int-next 0 0 b h, int-none 0 b)
placed (suc n) b h =
    let s : suc n - suc n ≡ 0 = omega arith in
    let z : ℕ → ℕ = λ i. get_or b i 0 in
    let one : (i : ℕ) → i ≤ n → byte_worth (suc n - i) (z i) ≡ 256 * byte_worth (n - i) (z i) =
    λ i g. let e : suc n - i ≡ suc (n - i) = omega arith in ap (λ (k : ℕ). byte_worth k (z i)) e ∙ worth-more (n - i) (z i) in
    let more = sum-more (λ i. byte_worth (suc n - i) (z i)) (λ i. byte_worth (n - i) (z i)) n one in
    let next = rw zero-add at (int-next 0 (suc n) b (omega arith)) in
    let last : byte_worth 0 (z (suc n)) ≡ z (suc n) = refl in
    rw (s, more, placed n b (omega arith), add-one n) (omega (arith, next, last))

pub from_be : (b : List ℕ) → length b ≡ 16 → from_be_bytes w128 b ≡ number b
from_be b l = placed 15 b (omega arith) ∙ ap number (take_all 16 b (omega arith))

-- ---- writing

byte-lower : (k n : ℕ) → byte_at k (n / 256) ≡ byte_at (suc k) n
byte-lower zero n = refl
byte-lower (suc k) n = ap (λ (m : ℕ). m % 256) (div-div-eq-div-mul n 256 (256 ^ suc k) ∙ ap (λ (m : ℕ). n / m) (sym (pow-succ' 256 (suc k))))

bytes-first : (k n : ℕ) → bytes_of (suc k) n ≡ byte_at k n ∷ bytes_of k n
unfolding bytes_of
bytes-first zero n = refl
bytes-first (suc k) n = rw (bytes-first k (n / 256)) (ap (λ (m : ℕ). m ∷ (bytes_of k (n / 256) ++ (n % 256 ∷ []))) (byte-lower k n))

-- the library's bytes of a number are those of the rules
pub high-first : (k n : ℕ) → bytes_high_first k n ≡ bytes_of k n
unfolding bytes_of
high-first zero n = refl
high-first (suc k) n = rw (high-first k n) (sym (bytes-first k n))
