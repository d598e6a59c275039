-- Right because what is no value is its own shortest form, and is compared as it is. Assumes nothing.
use Prim.Native.Nat.{ℕ}
use mathlib.Core.Path.{◌≡◌, refl, sym, ap, ap₂, ◌∙◌}
use mathlib.Core.Bool.{Bool, true, false, ◌&&◌}
use mathlib.Core.List.{List}
use lib.ListN.{length}
use lib.Dec.{eqb}
use borrow.Author.Tests.{eq-eqb, ne_eqb}
use Rattle.rules.specs.Bytes.{byte, part, same}
use Rattle.rules.specs.Key.{same_value}
use Rattle.rules.proofs.Tests.{contradiction}
use Rattle.rules.proofs.Shortest.{short-unused}
use Rattle.values.proofs.Compared.{by-words}
use Rattle.values.proofs.is_shortest_of.Goals as goal
use Rattle.values.proofs.is_shortest_of.Goals.{then-e-eq0, else-e-eq0}

-- where v is no value, it is compared as it is: whether e is one, and two words
as-it-is : (e v : List ℕ) (a b : Bool) → length e ≡ 17 → length v ≡ 17 → byte 0 v ≡ 0
    → eqb (byte 0 e) 0 ≡ a → same (part 1 8 e) (part 1 8 v) ≡ b → same_value e v ≡ (a && (b && same (part 9 8 e) (part 9 8 v)))
unfolding same_value
as-it-is e v a b size long none first word =
    ap (same e) (short-unused v none) ∙ by-words e v size long
    ∙ ap₂ (λ (x y : Bool). x && (y && same (part 9 8 e) (part 9 8 v))) (ap (eqb (byte 0 e)) none ∙ first) word

pub returns-then-equal_eight : goal.returns-then-equal_eight
returns-then-equal_eight c =
    elim c.if-e-eq0.branch [
      | then-e-eq0 w ↦
          c.equal_eight-then-equal_eight.ensures
          ∙ sym (as-it-is c.args.e.now c.args.v.now true true c.told-e c.told-v c.if-v-ne0.false (eq-eqb _ _ w.if-e-eq0.true)
          (sym w.equal_eight.ensures ∙ sym w.value-is ∙ c.if-equal_eight.true))
      | else-e-eq0 w ↦ contradiction c.if-equal_eight.true (w.value-is ∙ ne_eqb _ _ w.if-e-eq0.false)
    ]

pub returns-else-equal_eight : goal.returns-else-equal_eight
returns-else-equal_eight c =
    elim c.if-e-eq0.branch [
      | then-e-eq0 w ↦
          c.if-equal_eight.false
          ∙ sym (as-it-is c.args.e.now c.args.v.now true false c.told-e c.told-v c.if-v-ne0.false (eq-eqb _ _ w.if-e-eq0.true)
          (sym w.equal_eight.ensures ∙ sym w.value-is ∙ c.if-equal_eight.false))
      | else-e-eq0 w ↦
          c.if-equal_eight.false
          ∙ sym (as-it-is c.args.e.now c.args.v.now false _ c.told-e c.told-v c.if-v-ne0.false (ne_eqb _ _ w.if-e-eq0.false) refl)
    ]
