-- Bits as powers of two, and the rules' test of a mask as the machine's conjunction. Assumes nothing.
use Prim.Native.Nat.{ℕ, zero, suc, ◌+◌, ◌*◌, ◌^◌, ◌<◌, ◌/◌, ◌%◌, min}
use native.Mathlib.Nat.{one-mul, mod-eq_of_lt}
use native.Mathlib.Nat.{pow-suc}
use native.Mathlib.Omega.{arith}
use mathlib.Core.Path.{◌≡◌, refl, sym, ap, ◌∙◌}
use mathlib.Core.Bool.{◌&&◌}
use lib.Bits.{bit_and, and_step, and_le_l}
use lib.Dec.{leb, eqb}
use lib.Pow.{pow-lt, pow-add}
use borrow.Author.Tests.{eq-eqb}
use Rattle.rules.specs.Key.{bits_within}
use Rattle.std.proofs.lemmas.Bool.Decides.{nat_tests}

-- 1 shifted
pub one_shl : (w : ℕ) → w < 64 → (1 * 2 ^ w) % 2 ^ 64 ≡ 2 ^ w
one_shl w h = ap (λ (n : ℕ). n % 2 ^ 64) (one-mul (2 ^ w)) ∙ mod-eq_of_lt (pow-lt h)

-- k bytes are 8 * k bits
pub byte-bits : (k : ℕ) → 256 ^ k ≡ 2 ^ (8 * k)
byte-bits zero = refl
byte-bits (suc k) =
    let e : 8 * suc k ≡ 8 * k + 8 = omega arith in
    pow-suc 256 k ∙ ap (λ (n : ℕ). n * 256) (byte-bits k) ∙ sym (ap (λ (n : ℕ). 2 ^ n) e ∙ pow-add 2 (8 * k) 8)

-- the lowest bits r and s of two numbers, of which q and a are the rests of the first and of the conjunction t
lowest-bit : (x t q a r s : ℕ) → r < 2 → x ≡ q * 2 + r → t ≡ a * 2 + min r s → (leb r s && eqb a q) ≡ eqb t x
lowest-bit x t q a r s h e f = grind (arith, nat_tests)

-- the recursion over the bits is the machine's conjunction
pub within-and : (w x m : ℕ) → x < 2 ^ w → bits_within w x m ≡ eqb (bit_and x m) x
unfolding bits_within
within-and zero x m h = let z : x ≡ 0 = omega arith in sym (eq-eqb (bit_and x m) x (omega (arith, and_le_l x m)))
within-and (suc w) x m h =
    let p : 2 ^ suc w ≡ 2 ^ w * 2 = pow-suc 2 w in
    ap (◌&&◌ (leb (x % 2) (m % 2))) (within-and w (x / 2) (m / 2) (omega arith))
    ∙ lowest-bit x (bit_and x m) (x / 2) (bit_and (x / 2) (m / 2)) (x % 2) (m % 2) (omega arith) (omega arith) (and_step x m)
