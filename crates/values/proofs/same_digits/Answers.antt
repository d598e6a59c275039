-- Right because two words that meet or overlap are all digits between them. Assumes nothing.
use Prim.Native.Nat.{ℕ, ◌+◌, ◌-◌, ◌≤◌}
use native.Mathlib.Omega.{arith}
use mathlib.Core.Path.{◌≡◌, sym, ap, ◌∙◌}
use mathlib.Core.Bool.{Bool, ◌&&◌}
use mathlib.Core.List.{List}
use lib.ListN.{length}
use Rattle.rules.specs.Bytes.{part, same}
use Rattle.values.proofs.Compared.{two-words}
use Rattle.values.proofs.same_digits.Goals as goal

-- eight digits or more are the first eight and the last eight
halves : (e v : List ℕ) (first count : ℕ) (b : Bool) → length e ≡ 17 → length v ≡ 17 → 8 ≤ count → 1 ≤ first → first + count ≤ 17
    → b ≡ same (part 1 8 e) (part first 8 v)
    → same (part 1 count e) (part first count v) ≡ (b && same (part (count - 7) 8 e) (part (first + count - 8) 8 v))
halves e v first count b size long eight some within first-eight =
    two-words e v 1 first count (count - 7) (first + count - 8) (omega arith) (omega arith) eight (omega arith) (omega arith) (omega arith)
    ∙ ap (λ (b : Bool). b && same (part (count - 7) 8 e) (part (first + count - 8) 8 v)) (sym first-eight)

pub returns-then-equal_eight : goal.returns-then-equal_eight
returns-then-equal_eight c =
    let a = c.args in
    c.equal_eight-then-equal_eight.ensures
    ∙ sym (halves a.e.now a.v.now a.first a.count _ c.told-e c.told-v c.if-count-lt8.false c.requires.0 c.requires.1
    (sym c.if-equal_eight.true ∙ c.equal_eight.ensures))

pub returns-else-equal_eight : goal.returns-else-equal_eight
returns-else-equal_eight c =
    let a = c.args in
    c.if-equal_eight.false
    ∙ sym (halves a.e.now a.v.now a.first a.count _ c.told-e c.told-v c.if-count-lt8.false c.requires.0 c.requires.1
    (sym c.if-equal_eight.false ∙ c.equal_eight.ensures))
