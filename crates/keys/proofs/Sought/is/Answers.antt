-- Right because a key is its table, its priority and its slots, compared in this order; a key in shortest form is compared whole.
-- Assumes nothing.
use Prim.Native.Nat.{ℕ}
use native.Mathlib.Omega.{arith}
use mathlib.Core.Path.{◌≡◌, sym, ap, ap₂, ◌∙◌}
use mathlib.Core.Bool.{Bool, true, false, not, ◌&&◌}
use mathlib.Core.List.{List}
use lib.ListN.{length, take}
use Rattle.rules.specs.Bytes.{part, same}
use Rattle.keys.specs.Rest.{short_rest}
use Rattle.keys.proofs.Rest.{left, whole-compared, same-table, by-priority}
use Rattle.keys.proofs.Sought.is.Goals as goal

turned : (a b : Bool) → a ≡ not b → b ≡ not a
turned a true e = sym (ap not e)
turned a false e = sym (ap not e)

pub returns-then-not-equal : goal.returns-then-not-equal
returns-then-not-equal c =
    let e : List ℕ = c.args.key.now in
    let t : List ℕ = c.args.self.table.now in
    let r : List ℕ = c.args.self.rest.now in
    let four : length t ≡ 4 = omega arith in
    sym (whole-compared e t r c.told-key four c.args.self.long
    ∙ ap (λ (b : Bool). b && same (part 4 144 e) (short_rest r)) (sym c.equal.ensures ∙ c.if-not-equal.true))

pub returns-then-short : goal.returns-then-short
returns-then-short c =
    let e : List ℕ = c.args.key.now in
    let t : List ℕ = c.args.self.table.now in
    let r : List ℕ = c.args.self.rest.now in
    let four : length t ≡ 4 = omega arith in
    turned _ _ c.is_none.ensures ∙ c.differing_word.ensures.same ∙ ap₂ same c.rest_of-stored.ensures (sym (c.args.self.told c.if-short.true))
    ∙ sym (same-table e t r c.told-key four c.args.self.long (sym c.equal.ensures ∙ c.if-not-equal.false))

pub returns-then-equal : goal.returns-then-equal
returns-then-equal c =
    let e : List ℕ = c.args.key.now in
    let t : List ℕ = c.args.self.table.now in
    let r : List ℕ = c.args.self.rest.now in
    let four : length t ≡ 4 = omega arith in
    c.same_slots.ensures ∙ ap (λ (x : List ℕ). left x r 0) c.rest_of-stored.ensures
    ∙ sym (by-priority e t r c.told-key four c.args.self.long (sym c.equal.ensures ∙ c.if-not-equal.false)
    ∙ ap (λ (b : Bool). b && left (part 4 144 e) r 0)
    (ap (λ (x : List ℕ). same (take 4 x) (take 4 r)) (sym c.rest_of-stored.ensures) ∙ sym c.equal-2.ensures ∙ c.if-equal.true))

pub returns-else-equal : goal.returns-else-equal
returns-else-equal c =
    let e : List ℕ = c.args.key.now in
    let t : List ℕ = c.args.self.table.now in
    let r : List ℕ = c.args.self.rest.now in
    let four : length t ≡ 4 = omega arith in
    c.if-equal.false
    ∙ sym (by-priority e t r c.told-key four c.args.self.long (sym c.equal.ensures ∙ c.if-not-equal.false)
    ∙ ap (λ (b : Bool). b && left (part 4 144 e) r 0)
    (ap (λ (x : List ℕ). same (take 4 x) (take 4 r)) (sym c.rest_of-stored.ensures) ∙ sym c.equal-2.ensures ∙ c.if-equal.false))
