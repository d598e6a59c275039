-- What is held is what the bytes are read as: a count is read as the number that there are at most, and bytes are held one by one.
-- Assumes nothing.
use Rattle.std.proofs.Common.{◌≡◌, ℕ, suc, ◌+◌, ◌≤◌, ◌<◌, min, List, [], ◌∷◌, length, take, ap, ◌∙◌, arith, drop-cons}
use Rattle.std.proofs.lemmas.List.{take_min}
use Rattle.rules.specs.Bytes.{byte, part}

-- the first n of m elements, where no more than m are taken
pub take_within : {A : Type 0} (n m : ℕ) (l : List A) → length l ≡ m → take (min n m) l ≡ take n l
take_within n m l e = rw (← e) (take_min n l)

-- bytes one by one
part-first : (a n : ℕ) (l : List ℕ) → a < length l → part a (suc n) l ≡ byte a l ∷ part (suc a) n l
part-first a n l h = rw (drop-cons l a 0)

pub part-two : (a : ℕ) (l : List ℕ) → a + 2 ≤ length l → part a 2 l ≡ byte a l ∷ byte (suc a) l ∷ []
part-two a l h = part-first a 1 l (omega arith) ∙ ap (λ (k : List ℕ). byte a l ∷ k) (part-first (suc a) 0 l (omega arith))

pub part-four : (a : ℕ) (l : List ℕ) → a + 4 ≤ length l
    → part a 4 l ≡ byte a l ∷ byte (suc a) l ∷ byte (suc (suc a)) l ∷ byte (suc (suc (suc a))) l ∷ []
part-four a l h =
    part-first a 3 l (omega arith) ∙ ap (λ (k : List ℕ). byte a l ∷ k) (part-first (suc a) 2 l (omega arith)
    ∙ ap (λ (k : List ℕ). byte (suc a) l ∷ k) (part-two (suc (suc a)) l (omega arith)))
