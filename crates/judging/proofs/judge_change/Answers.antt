-- Right because the entry is there or not. Assumes nothing.
use native.Mathlib.Omega.{arith}
use mathlib.Core.Path.{sym, ap, ◌∙◌}
use borrow.Author.Tests.{eq-eqb, ne_eqb}
use Rattle.std.specs.Prelude.{is_some}
use Rattle.judging.proofs.Place.{change-present, change-absent}
use Rattle.judging.proofs.judge_change.Goals as goal

pub returns-in_default-clause-judged : goal.returns-in_default-clause-judged
returns-in_default-clause-judged c =
    let a = c.args in
    λ row es e p. (sym (change-absent row e es a.place p a.kind c.requires (ap is_some c.in_default.is)), omega arith)

pub returns-then-kind-eq-MODIFY-clause-judged : goal.returns-then-kind-eq-MODIFY-clause-judged
returns-then-kind-eq-MODIFY-clause-judged c =
    let a = c.args in
    let n = c.requires in
    λ row es e p. (
      sym (change-present row e es a.place p a.kind n (ap is_some c.in-Some.is)),
      (n, eq-eqb a.kind 2 c.if-kind-eq-MODIFY.true, sym p ∙ c.in-Some.is),
    )

pub returns-clause-judged : goal.returns-clause-judged
returns-clause-judged c =
    let a = c.args in
    let n = c.requires in
    λ row es e p. (
      sym (change-present row e es a.place p a.kind n (ap is_some c.in-Some.is)),
      (n, ne_eqb a.kind 2 c.if-kind-eq-MODIFY.false, sym p ∙ c.in-Some.is),
    )
