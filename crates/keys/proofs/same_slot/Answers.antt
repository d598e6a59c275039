-- Right because a slot is its kind and two values, compared in this order. Assumes nothing.
use Prim.Native.Nat.{ℕ}
use mathlib.Core.Path.{◌≡◌, refl, sym, ap₂, ◌∙◌}
use mathlib.Core.Bool.{Bool, true, false, ◌&&◌}
use mathlib.Core.List.{List}
use lib.Dec.{eqb}
use borrow.Author.Tests.{eq-eqb, ne_eqb}
use Rattle.rules.specs.Key.{kind, value1, value2, same_value, same_slot}
use Rattle.rules.proofs.Tests.{contradiction}
use Rattle.keys.proofs.same_slot.Goals as goal
use Rattle.keys.proofs.same_slot.Goals.{then-stored-slot, else-stored-slot}

-- kind, first value, second value
in_turn : (e s : List ℕ) (k a : Bool) → eqb (kind e) (kind s) ≡ k → same_value (value1 e) (value1 s) ≡ a
    → same_slot e s ≡ (k && (a && same_value (value2 e) (value2 s)))
unfolding same_slot
in_turn e s k a p q = ap₂ (λ (x y : Bool). x && (y && same_value (value2 e) (value2 s))) p q

pub returns-then-is_shortest_of : goal.returns-then-is_shortest_of
returns-then-is_shortest_of c =
    elim c.if-stored-slot.branch [
      | then-stored-slot w ↦
          c.is_shortest_of-then-is_shortest_of.ensures
          ∙ ap₂ same_value c.value_at-then-is_shortest_of.ensures c.value_at-then-is_shortest_of-2.ensures
          ∙ sym (in_turn c.args.stored.now c.args.slot.now true true (eq-eqb _ _ w.if-stored-slot.true)
          (sym (ap₂ same_value w.value_at.ensures w.value_at-then-stored-slot.ensures) ∙ sym w.is_shortest_of.ensures ∙ sym w.value-is
          ∙ c.if-is_shortest_of.true))
      | else-stored-slot w ↦ contradiction c.if-is_shortest_of.true (w.value-is ∙ ne_eqb _ _ w.if-stored-slot.false)
    ]

pub returns-else-is_shortest_of : goal.returns-else-is_shortest_of
returns-else-is_shortest_of c =
    elim c.if-stored-slot.branch [
      | then-stored-slot w ↦
          c.if-is_shortest_of.false
          ∙ sym (in_turn c.args.stored.now c.args.slot.now true false (eq-eqb _ _ w.if-stored-slot.true)
          (sym (ap₂ same_value w.value_at.ensures w.value_at-then-stored-slot.ensures) ∙ sym w.is_shortest_of.ensures ∙ sym w.value-is
          ∙ c.if-is_shortest_of.false))
      | else-stored-slot w ↦
          c.if-is_shortest_of.false ∙ sym (in_turn c.args.stored.now c.args.slot.now false _ (ne_eqb _ _ w.if-stored-slot.false) refl)
    ]
