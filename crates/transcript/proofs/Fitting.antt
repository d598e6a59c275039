-- An answer fits where four tests pass; then its line has room. Assumes nothing.
use Prim.Native.Nat.{ℕ, ◌+◌, ◌*◌, ◌-◌, ◌≤◌, ◌<◌}
use native.Mathlib.Nat.{mul_comm}
use native.Mathlib.Omega.{arith}
use mathlib.Core.Path.{◌≡◌, refl, sym, ap, ◌∙◌}
use mathlib.Core.Bool.{Bool, true, false, ◌&&◌}
use mathlib.Core.List.{List, [], ◌∷◌, ◌++◌, append_assoc}
use lib.Dec.{leb}
use lib.ListN.{length, drop, length-append, length-drop}
use borrow.Author.Tests.{le-leb, leb-true}
use Rattle.std.proofs.lemmas.Bool.Decides.{nat_tests}
use Rattle.rules.specs.Bytes.{byte, int, parts}
use Rattle.rules.proofs.Tests.{and-true}
use Rattle.rules.proofs.Formed.{parts-count, parts-lengths}
use Rattle.transcript.specs.Line.{decimal, field, newline, records_hex, printed, fits, line_in}
use Rattle.transcript.proofs.Lines.{digits-few, field-few, records-length}

module _ (room size : ℕ) (answer : List ℕ) where
  pub no_head : length answer < 4 → fits room size answer ≡ false
  unfolding fits
  no_head h = grind (arith, nat_tests)

  -- the tests of the code, of the records and of their number
  pub tests-fit : (n : ℕ) → n ≡ int 2 2 answer → 4 ≤ length answer
      → (leb size 220 && leb (size * n) (length answer - 4) && leb (84 + (1 + 2 * size) * n) room) ≡ fits room size answer
  unfolding fits
  tests-fit n e h = rw (← e, le-leb 4 (length answer) h) (grind (arith, nat_tests))

-- what the tests say
pub record Fitting (room size : ℕ) (answer : List ℕ) : Type 0 where
  pub head : 4 ≤ length answer
  pub whole : 4 + size * int 2 2 answer ≤ length answer
  pub space : 84 + (1 + 2 * size) * int 2 2 answer ≤ room

pub fitting : (room size : ℕ) (answer : List ℕ) → fits room size answer ≡ true → Fitting room size answer
unfolding fits
fitting room size answer h =
    let a = and-true _ _ h in
    let b = and-true _ _ a.0 in
    let c = and-true (leb size 220) (leb 4 (length answer)) b.0 in
    record { head = leb-true _ _ c.1; whole = leb-true _ _ b.1; space = leb-true _ _ a.1 }

-- ---- the line

pub line_in-whole : (room ordinal size : ℕ) (answer : List ℕ) → fits room size answer ≡ true
    → line_in room ordinal size answer ≡ printed ordinal (byte 0 answer) (byte 1 answer) (parts (int 2 2 answer) size (drop 4 answer))
unfolding line_in
line_in-whole room ordinal size answer h = rw h

pub line_in-none : (room ordinal size : ℕ) (answer : List ℕ) → fits room size answer ≡ false → line_in room ordinal size answer ≡ []
unfolding line_in
line_in-none room ordinal size answer h = rw h

-- the numbers, then the records
pub printed-split : (ordinal reason code n : ℕ) (rs : List (List ℕ)) → length rs ≡ n
    → printed ordinal reason code rs ≡ (field ordinal ++ (field reason ++ (field code ++ decimal n))) ++ (records_hex rs ++ (newline ∷ []))
unfolding printed
printed-split ordinal reason code n rs e = rw (← e) (sym (simp append_assoc))

pub printed-length : (ordinal reason code n size : ℕ) (l : List ℕ) → size * n ≤ length l
    → length (printed ordinal reason code (parts n size l)) ≤ 84 + (1 + 2 * size) * n
printed-length ordinal reason code n size l h =
    let rs : List (List ℕ) = parts n size l in
    let e : length (records_hex rs) ≡ (1 + 2 * size) * n =
    records-length size rs (parts-lengths n size l (omega (arith, mul_comm n size))) ∙ ap (λ (k : ℕ). (1 + 2 * size) * k) (parts-count n size l) in
    let numbers : ℕ = length (field ordinal) + (length (field reason) + (length (field code) + length (decimal n))) in
    let s : length (printed ordinal reason code rs) ≡ numbers + (length (records_hex rs) + 1) =
    ap length (printed-split ordinal reason code n rs (parts-count n size l)) ∙ simp length-append in
    omega (arith, field-few ordinal, field-few reason, field-few code, digits-few 20 n)

-- no line is longer than its room
pub line_in-length : (room ordinal size : ℕ) (answer : List ℕ) → length (line_in room ordinal size answer) ≤ room
line_in-length room ordinal size answer = go (fits room size answer) refl
  where
    go : (t : Bool) → fits room size answer ≡ t → length (line_in room ordinal size answer) ≤ room
    go false q = omega (arith, ap length (line_in-none room ordinal size answer q))
    go true q =
        let f = fitting room size answer q in
        let l : size * int 2 2 answer ≤ length (drop 4 answer) = omega (arith, f.whole, length-drop 4 answer) in
        let p = printed-length ordinal (byte 0 answer) (byte 1 answer) (int 2 2 answer) size (drop 4 answer) l in
        omega (arith, f.space, ap length (line_in-whole room ordinal size answer q), p)
