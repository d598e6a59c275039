-- Right because a shortest form has the last digits of the value, and the digits before them are zeros. Assumes nothing.
use Prim.Native.Nat.{ℕ, ◌+◌, ◌-◌, ◌≤◌}
use native.Mathlib.Omega.{arith}
use mathlib.Core.Path.{◌≡◌, sym, ap, ◌∙◌}
use mathlib.Core.Bool.{true, not}
use mathlib.Core.List.{List}
use borrow.Author.Rules.{rules}
use borrow.Author.Tests.{eq-eqb, ne_eqb, le-leb}
use Rattle.rules.specs.Bytes.{part}
use Rattle.rules.specs.Key.{same_value}
use Rattle.rules.proofs.Tests.{contradiction, fails, same_true, eq-same}
use Rattle.values.proofs.Leading.{ShortestOf, shortest-has, shortest-by}
use Rattle.values.proofs.has_digits_of.Goals as goal
use Rattle.values.proofs.has_digits_of.Goals.{then-contains+then-count-le1, then-contains+else-count-le1, else-contains, then-e-ne0, else-e-ne0}
use Rattle.values.proofs.has_digits_of.Goals.{then-zero_before, else-zero_before}

pub returns-then-same_digits : goal.returns-then-same_digits
returns-then-same_digits c =
    let e : List ℕ = c.args.e.now in
    let v : List ℕ = c.args.v.now in
    let n : ℕ = c.digit_count-n.result in
    let m : ℕ = c.from-count.result in
    let before : c.if-e-ne0.value ≡ true = elim c.if-zero_before.branch [
      | then-zero_before w ↦ w.if-zero_before.true
      | else-zero_before w ↦ contradiction c.if-same_digits.true (w.value-is ∙ w.if-zero_before.false)
    ] in
    let counted : c.if-contains.value ≡ true = elim c.if-e-ne0.branch [
      | then-e-ne0 w ↦ w.if-e-ne0.true
      | else-e-ne0 w ↦ contradiction before (w.value-is ∙ w.if-e-ne0.false)
    ] in
    let bounds : (1 ≤ m) × (m ≤ n) = elim c.if-contains.branch [
      | then-contains+then-count-le1 w ↦ search rules
      | then-contains+else-count-le1 w ↦ search rules
      | else-contains w ↦ contradiction counted (w.value-is ∙ w.if-contains.false)
    ] in
    let found : ShortestOf e v n m = record {
      some = bounds.0;
      few = bounds.1;
      first = λ more q. elim c.if-contains.branch [
        | then-contains+then-count-le1 w ↦ omega arith
        | then-contains+else-count-le1 w ↦ contradiction (sym w.value-is ∙ counted) (ap not (eq-eqb _ _ q))
        | else-contains w ↦ contradiction counted (w.value-is ∙ w.if-contains.false)
      ];
      zeros = elim c.if-e-ne0.branch [
        | then-e-ne0 w ↦ sym w.zero_before.ensures ∙ sym w.value-is ∙ before
        | else-e-ne0 w ↦ contradiction before (w.value-is ∙ w.if-e-ne0.false)
      ];
      digits = same_true (part 1 m e) (part (n - m + 1) m v) (elim c.if-zero_before.branch [
        | then-zero_before w ↦ sym w.same_digits.ensures ∙ sym w.value-is ∙ c.if-same_digits.true
        | else-zero_before w ↦ contradiction c.if-same_digits.true (w.value-is ∙ w.if-zero_before.false)
      ]);
    } in
    c.zero_after.ensures
    ∙ sym (shortest-by e v n m c.told-e c.told-v c.digit_count-n.ensures (omega arith) (sym c.from-count.ensures) found)

pub returns-else-same_digits : goal.returns-else-same_digits
returns-else-same_digits c =
    let e : List ℕ = c.args.e.now in
    let v : List ℕ = c.args.v.now in
    let n : ℕ = c.digit_count-n.result in
    let m : ℕ = c.from-count.result in
    let all : ShortestOf e v n m → c.if-zero_before.value ≡ true =
    λ s.
    let some : 1 ≤ m = s.some in
    let few : m ≤ n = s.few in
    let counted : c.if-contains.value ≡ true = elim c.if-contains.branch [
      | then-contains+then-count-le1 w ↦ w.value-is ∙ le-leb _ _ w.if-count-le1.true
      | then-contains+else-count-le1 w ↦ w.value-is ∙ ap not (ne_eqb _ _ (s.first (omega arith)))
      | else-contains w ↦ search rules
    ] in
    let before : c.if-e-ne0.value ≡ true = elim c.if-e-ne0.branch [
      | then-e-ne0 w ↦ w.value-is ∙ w.zero_before.ensures ∙ s.zeros
      | else-e-ne0 w ↦ contradiction counted w.if-e-ne0.false
    ] in
    elim c.if-zero_before.branch [
      | then-zero_before w ↦ w.value-is ∙ w.same_digits.ensures ∙ eq-same s.digits
      | else-zero_before w ↦ contradiction before w.if-zero_before.false
    ] in
    c.if-same_digits.false
    ∙ sym (fails (same_value e v)
    (λ q. contradiction (all (shortest-has e v n m c.told-e c.told-v c.digit_count-n.ensures (omega arith) (sym c.from-count.ensures) q)) c.if-same_digits.false))
