-- Right because a slot is in shortest form where both of its values are. Assumes nothing.
use Prim.Native.Nat.{ℕ}
use mathlib.Core.Path.{◌≡◌, refl, sym, ap, ap₂, ◌∙◌}
use mathlib.Core.Bool.{Bool, ◌&&◌}
use mathlib.Core.List.{List}
use borrow.Author.Tests.{eq-eqb}
use Rattle.rules.specs.Value.{is_short}
use Rattle.rules.specs.Key.{kind, value1, value2, same_value, same_slot}
use Rattle.keys.proofs.is_short_slot.Goals as goal

-- the first value, then the second
in_turn : (s : List ℕ) (a : Bool) → is_short (value1 s) ≡ a → same_slot s s ≡ (a && is_short (value2 s))
unfolding same_slot same_value
in_turn s a p = ap₂ (λ (x y : Bool). x && (y && is_short (value2 s))) (eq-eqb (kind s) (kind s) refl) p

pub returns-then-is_short : goal.returns-then-is_short
returns-then-is_short c =
    c.is_short-then-is_short.ensures ∙ ap is_short c.value_at-then-is_short.ensures
    ∙ sym (in_turn c.args.slot.now _ (sym (ap is_short c.value_at.ensures) ∙ sym c.is_short.ensures ∙ c.if-is_short.true))

pub returns-else-is_short : goal.returns-else-is_short
returns-else-is_short c =
    c.if-is_short.false
    ∙ sym (in_turn c.args.slot.now _ (sym (ap is_short c.value_at.ensures) ∙ sym c.is_short.ensures ∙ c.if-is_short.false))
