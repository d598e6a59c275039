-- The chunks of the library are the parts of the rules. Assumes nothing.
use Rattle.std.proofs.Common.{◌≡◌, ℕ, zero, suc, List, [], ◌∷◌, length, ◌/◌, take, drop, get_or, map, refl, ap}
use Rattle.std.specs.Simd.{first_chunks}
use Rattle.rules.specs.Bytes.{parts}

pub chunks-parts : (w n : ℕ) (l : List ℕ) → first_chunks w n l ≡ parts n w l
unfolding parts
chunks-parts w zero l = refl
chunks-parts w (suc n) l = ap (λ (ps : List (List ℕ)). take w l ∷ ps) (chunks-parts w n (drop w l))

pub chunks-are : (w n : ℕ) (l : List ℕ) {cs : List (List ℕ)} → cs ≡ first_chunks w (length l / w) l → length l / w ≡ n → cs ≡ parts n w l
chunks-are w n l e k = rw (e, k, chunks-parts w n l)

-- four values, each of its part
pub four_alike : {A B : Type 0} (f : A → B) (g : List ℕ → B) (w : ℕ) (l : List ℕ) {x y z u : A} {cs : List (List ℕ)}
    → cs ≡ parts 4 w l → f x ≡ g (get_or cs 0 []) → f y ≡ g (get_or cs 1 []) → f z ≡ g (get_or cs 2 []) → f u ≡ g (get_or cs 3 [])
    → map f (x ∷ y ∷ z ∷ u ∷ []) ≡ map g (parts 4 w l)
unfolding parts
four_alike f g w l e p q r s = rw (rw e at p, rw e at q, rw e at r, rw e at s)
