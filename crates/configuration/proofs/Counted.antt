-- The records that a count says are the first parts of the bytes, the bytes past them those of the other parts. Assumes nothing.
use Rattle.std.proofs.Common.{◌≡◌, ℕ, zero, suc, ◌*◌, ◌≤◌, Bool, true, false, ◌&&◌, cond, List, [], ◌∷◌, length, take, drop}
use Rattle.std.proofs.Common.{eqb, leb, not, Some, None, refl, ap, arith}
use Rattle.std.specs.Borrow.{Bor}
use Rattle.std.specs.Bool.{then_some}
use Rattle.std.specs.Option.{option_copied}
use Rattle.std.specs.List.{list_all}
use borrow.Author.Tests.{le-leb, ne_eqb}
use Rattle.rules.specs.Bytes.{every, all_zero, parts}

-- ---- tests

pub every-all : {A : Type 0} (p : A → Bool) (l : List A) → list_all p l ≡ every p l
every-all p [] = refl
every-all p (x ∷ l) = ap (λ (b : Bool). p x && b) (every-all p l)

-- whether there are any
pub any-asked : {A : Type 0} (l : List A) (n : ℕ) → length l ≡ n → leb 1 n ≡ not (eqb (length l) 0)
any-asked l zero e = rw e refl
any-asked l (suc n) e = rw (e, ne_eqb (suc n) 0 (omega arith), le-leb 1 (suc n) (omega arith))

-- ---- the first n of m parts

pub take_parts : (n m w : ℕ) (l : List ℕ) → n ≤ m → take n (parts m w l) ≡ parts n w l
unfolding parts
take_parts zero m w l h = refl
take_parts (suc n) zero w l h = absurd (omega arith)
take_parts (suc n) (suc m) w l h = ap (λ (ps : List (List ℕ)). take w l ∷ ps) (take_parts n m w (drop w l) (omega arith))

-- whether n records of w bytes fit, and nothing is past them
abbrev pub few : ℕ → ℕ → List ℕ → Bool
few w n l = leb n 4 && all_zero (drop (w * n) l)

-- ---- what is handed back

pub given : {A : Type 0} (t : Bool) (x : Bor A) {y : A} → x.now ≡ y → option_copied (then_some t x) ≡ cond t (Some y) None
given true x e = ap (λ z. Some z) e
given false x e = refl

pub was-some : {A : Type 0} (t : Bool) {x y : A} → Some x ≡ cond t (Some y) None → (t ≡ true) × (x ≡ y)
was-some true e = (refl, cc)
was-some false e = absurd (cc)

pub was-none : {A : Type 0} (t : Bool) (y : A) → None ≡ cond t (Some y) None → t ≡ false
was-none true y e = absurd (cc)
was-none false y e = refl
