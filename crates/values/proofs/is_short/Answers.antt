-- Right because a value without a leading zero is stripped of nothing, and one with a leading zero of that. Assumes nothing.
use Prim.Native.Nat.{ℕ, ◌<◌}
use native.Mathlib.Omega.{arith}
use mathlib.Core.Path.{◌≡◌, sym, ap, ◌∙◌}
use mathlib.Core.Bool.{not}
use mathlib.Core.List.{List}
use borrow.Author.Rules.{rules}
use borrow.Author.Tests.{eq-eqb, le-leb}
use Rattle.rules.specs.Bytes.{byte}
use Rattle.rules.proofs.Tests.{contradiction, eq-same}
use Rattle.rules.proofs.Shortest.{short-unused}
use Rattle.values.proofs.Compared.{leading-zero, no-leading-zero}
use Rattle.values.proofs.is_short.Goals as goal
use Rattle.values.proofs.is_short.Goals.{then-n-le1, else-n-le1}

pub returns-then-n-eq0 : goal.returns-then-n-eq0
returns-then-n-eq0 c =
    let v : List ℕ = c.args.v.now in
    eq-eqb _ _ c.if-n-eq0.true ∙ sym (eq-same (sym (short-unused v c.if-n-eq0.true)))

pub returns-then-v-ne0 : goal.returns-then-v-ne0
returns-then-v-ne0 c =
    let v : List ℕ = c.args.v.now in
    let none : 1 < byte 0 v → byte 1 v ≡ 0 → ⊥ =
    λ more z. elim c.if-n-le1.branch [
      | then-n-le1 w ↦ omega arith
      | else-n-le1 w ↦ contradiction (sym w.value-is ∙ c.if-v-ne0.true) (ap not (eq-eqb _ _ z))
    ] in
    c.formed.ensures ∙ sym (no-leading-zero v (omega arith) c.if-n-eq0.false none)

pub returns-else-v-ne0 : goal.returns-else-v-ne0
returns-else-v-ne0 c =
    let v : List ℕ = c.args.v.now in
    elim c.if-n-le1.branch [
      | then-n-le1 w ↦ contradiction (w.value-is ∙ le-leb _ _ w.if-n-le1.true) c.if-v-ne0.false
      | else-n-le1 w ↦
          let zero : byte 1 v ≡ 0 = search rules in
          c.if-v-ne0.false ∙ sym (leading-zero v (omega arith) c.if-n-eq0.false (omega arith) zero)
    ]
