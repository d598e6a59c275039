-- A row whose counts fit is held as the rules read it: taking the first n of four parts is reading n parts. Assumes nothing.
use Prim.Native.Nat.{ℕ, zero, suc, ◌+◌, ◌*◌, ◌≤◌}
use native.Mathlib.Omega.{arith}
use mathlib.Core.Path.{◌≡◌, refl, ap, ap₂, ◌∙◌}
use mathlib.Core.List.{List, [], ◌∷◌, map}
use mathlib.Core.Bool.{Bool, true, ◌&&◌}
use lib.ListN.{length, take, drop, length-take, length-drop}
use lib.Dec.{leb}
use borrow.Author.Tests.{leb-true}
use Rattle.rules.specs.Bytes.{every, byte, parts}
use Rattle.rules.specs.Frame.{row_size}
use Rattle.rules.specs.Row as rules
use Rattle.rules.proofs.Tests.{and-true}
use Rattle.rows.specs.Meaning.{action_read, row_read, counts_fit}

-- ---- parts

-- the first n of m parts
take-parts : (n m w : ℕ) (l : List ℕ) → n ≤ m → take n (parts m w l) ≡ parts n w l
unfolding parts
take-parts zero m w l h = refl
take-parts (suc n) zero w l h = absurd (omega arith)
take-parts (suc n) (suc m) w l h = ap (λ (ps : List (List ℕ)). take w l ∷ ps) (take-parts n m w (drop w l) (omega arith))

-- two readings that agree on each part of w bytes that passes a test
module _ {B : Type 0} (f g : List ℕ → B) (p : List ℕ → Bool) (w : ℕ) (alike : (l : List ℕ) → length l ≡ w → p l ≡ true → f l ≡ g l) where
  read_alike : (n : ℕ) (l : List ℕ) → w * n ≤ length l → every p (parts n w l) ≡ true → map f (parts n w l) ≡ map g (parts n w l)
  unfolding parts
  read_alike zero l h e = refl
  read_alike (suc n) l h e =
      let s : w + w * n ≤ length l = omega arith in
      let pass = and-true (p (take w l)) (every p (parts n w (drop w l))) e in
      let long : length (take w l) ≡ w = rw length-take (omega arith) in
      let rest : w * n ≤ length (drop w l) = rw length-drop (omega arith) in
      ap₂ (λ (x : B) (xs : List B). x ∷ xs) (alike (take w l) long pass.0) (read_alike n (drop w l) rest pass.1)

-- single bytes
ones : (n : ℕ) (l : List ℕ) → n ≤ length l → take n l ≡ map (byte 0) (parts n 1 l)
unfolding parts
ones zero l h = refl
ones (suc n) [] h = absurd (omega arith)
ones (suc n) (x ∷ l) h = ap (λ (k : List ℕ). x ∷ k) (ones n l (omega arith))

-- ---- an action, a row, rows

abbrev pub few_parameters : List ℕ → Bool
few_parameters a = leb (rules.parameter_count a) 4

action-held : (a : List ℕ) → length a ≡ 9 → few_parameters a ≡ true → action_read a ≡ rules.action_of a
unfolding action_read rules.action_of
action-held a s e =
    let few : rules.parameter_count a ≤ 4 = leb-true (rules.parameter_count a) 4 e in
    let long : rules.parameter_count a ≤ length (rules.width_bytes a) = rw (length-take, length-drop) (omega arith) in
    let widths = ones (rules.parameter_count a) (rules.width_bytes a) long in
    λ i. record { id = (rules.action_of a).id; widths = widths i }

row-held : (b : List ℕ) → length b ≡ row_size → counts_fit b ≡ true → row_read b ≡ rules.row_of b
unfolding row_read rules.row_of counts_fit
row-held b s e =
    let m : ℕ = rules.field_count b in
    let n : ℕ = rules.action_count b in
    let all : Bool = every few_parameters (parts n 9 (rules.action_bytes b)) in
    let both = and-true (leb m 4 && leb n 4) all e in
    let each = and-true (leb m 4) (leb n 4) both.0 in
    let few : n ≤ 4 = leb-true n 4 each.1 in
    let long : 9 * n ≤ length (rules.action_bytes b) = rw (length-take, length-drop) (omega arith) in
    let fields = ap (map rules.field_of) (take-parts m 4 2 (rules.field_bytes b) (leb-true m 4 each.0)) in
    let actions =
    ap (map action_read) (take-parts n 4 9 (rules.action_bytes b) few)
    ∙ read_alike action_read rules.action_of few_parameters 9 action-held n (rules.action_bytes b) long both.1 in
    λ i. record { table = (rules.row_of b).table; owner = byte 4 b; size = (rules.row_of b).size; fields = fields i; actions = actions i }

pub rows-held : (t : ℕ) (b : List ℕ) → row_size * t ≤ length b → every counts_fit (parts t row_size b) ≡ true
    → map row_read (parts t row_size b) ≡ map rules.row_of (parts t row_size b)
rows-held t b h e = read_alike row_read rules.row_of counts_fit row_size row-held t b h e
