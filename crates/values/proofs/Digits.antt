-- Stripping a part of a value is walking over its leading zeros, up to its last byte. Assumes nothing.
use Rattle.std.specs.Prelude.{if◌then◌else◌}
use Prim.Native.Nat.{ℕ, suc, ◌<◌, ◌≤◌}
use native.Mathlib.Nat.{add-zero}
use native.Mathlib.Omega.{arith}
use mathlib.Core.Path.{◌≡◌, refl, sym, ap, ◌∙◌}
use mathlib.Core.Bool.{Bool, true, false}
use mathlib.Core.List.{List, [], ◌∷◌}
use lib.Dec.{eqb}
use lib.ListN.{length, drop}
use lib.Seq.{drop-cons, take_all}
use borrow.Author.Tests.{eqb-true, eq-eqb, ne_eqb}
use Rattle.rules.specs.Bytes.{byte, part}
use Rattle.rules.specs.Value.{stripped}
use Rattle.rules.proofs.Lists.{byte-part}

-- the k + 1 bytes of v from place i, and which of them the shortest form keeps
module _ (v : List ℕ) (i k : ℕ) (inside : i < length v) where
  part-first : part i (suc k) v ≡ byte i v ∷ part (suc i) k v
  part-first = rw (drop-cons v i 0 inside)

  pub zero-goes : byte i v ≡ 0 → stripped (part i (suc k) v) ≡ stripped (part (suc i) k v)
  zero-goes z = rw (part-first, eq-eqb (byte i v) 0 z)

  pub other-stays : (byte i v ≡ 0 → ⊥) → stripped (part i (suc k) v) ≡ part i (suc k) v
  other-stays n = rw (part-first, ne_eqb (byte i v) 0 n)

pub one-stays : (b : ℕ) → stripped (b ∷ []) ≡ b ∷ []
one-stays b = go (eqb b 0) refl
  where
    go : (t : Bool) → eqb b 0 ≡ t → (if t then 0 ∷ [] else b ∷ []) ≡ b ∷ []
    go true e = rw (eqb-true b 0 e)
    go false e = refl

pub last-stays : (v : List ℕ) (i : ℕ) → i < length v → stripped (part i 1 v) ≡ part i 1 v
last-stays v i inside = rw (part-first v i 0 inside) (one-stays (byte i v))

-- a count past the end takes the bytes that are there
pub part-all : (a m n : ℕ) (l : List ℕ) → length (drop a l) ≤ m → m ≤ n → part a m l ≡ part a n l
part-all a m n l h g = take_all m (drop a l) h ∙ sym (take_all n (drop a l) (omega arith))

-- the first byte of a part
pub first_byte : (a n : ℕ) (l : List ℕ) → 0 < n → byte 0 (part a n l) ≡ byte a l
first_byte a n l h = byte-part a n 0 l h ∙ ap (λ (m : ℕ). byte m l) (add-zero a)
