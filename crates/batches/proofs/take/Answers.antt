-- Right because each step does what the rules say to what the steps before it left, and with atomicity 1 is noted after them or
-- stops the batch. Assumes nothing.
use Prim.Native.Nat.{◌≤◌, ◌<◌}
use native.Mathlib.Omega.{arith}
use mathlib.Core.Path.{◌≡◌, refl}
use mathlib.Core.List.{[]}
use lib.ListN.{length, get_or}
use Rattle.rules.specs.Named.{number_of}
use Rattle.rules.proofs.Named.{named}
use Rattle.batches.proofs.EachAlone.{flag-set}
use Rattle.batches.proofs.Taking.{taking-start, taking-next, taking-stop, stop-pairs, taking-end, beyond}
use Rattle.batches.proofs.take.Goals as goal
use Rattle.batches.proofs.take.Goals.{in-Ok, in-Err+else-atomicity-eq1}

pub loop-i-init : goal.loop-i-init
loop-i-init c =
    let few = c.requires.0.0 in
    (few, refl, taking-start _ _ _ _ _ _ _ _ few)

pub returns-then-atomicity-eq1-clause-left : goal.returns-then-atomicity-eq1-clause-left
returns-then-atomicity-eq1-clause-left c =
    let l = c.loop-i.invariant in
    let less : c.loop-i.i < length c.args.updates.now = omega arith in
    let own : number_of c.in-Err.own ≡ 0 → ⊥ = λ z. let n = named c.in-Err.own in omega (arith, n, z) in
    λ t. taking-stop _ _ _ _ _ _ _ l.2 less c.in-Err.ensures c.if-atomicity-eq1.true own t c.roll_back-held.ensures

pub returns-then-atomicity-eq1-clause-pairs : goal.returns-then-atomicity-eq1-clause-pairs
returns-then-atomicity-eq1-clause-pairs c =
    let l = c.loop-i.invariant in
    let less : c.loop-i.i < length c.args.updates.now = omega arith in
    let own : number_of c.in-Err.own ≡ 0 → ⊥ = λ z. let n = named c.in-Err.own in omega (arith, n, z) in
    let after = beyond _ _ _ _ _ _ _ l.2 less c.in-Err.ensures c.loop-i.auto.answer c.requires.1 l.1 in
    λ t. stop-pairs _ _ _ _ _ _ _ l.2 less c.in-Err.ensures c.if-atomicity-eq1.true own t c.write_outcomes.ensures after

pub loop-i-preserved : goal.loop-i-preserved
loop-i-preserved c =
    let l = c.loop-i.invariant in
    let p = c.requires in
    let less : c.loop-i.i < length c.args.updates.now = omega arith in
    let size : length (get_or c.args.updates.now c.loop-i.i []) ≡ 221 = c.told-updates c.loop-i.i less in
    let fits : c.args.atomicity ≡ 1 → length c.args.updates.now ≤ length c.loop-i.log = λ e. omega (arith, p.2 e, c.loop-i.auto.log) in
    elim c.match-step.branch [
      | in-Ok w ↦ (
        rw w.held-is w.in-Ok.ensures.few,
        beyond _ _ _ _ _ _ _ l.2 less w.in-Ok.ensures c.loop-i.auto.answer p.1 l.1,
        taking-next _ _ _ _ _ _ _ l.2 less w.in-Ok.ensures size p.1 fits (λ e. refl) w.held-is w.failed-is,
      )
      | in-Err+else-atomicity-eq1 w ↦
          let own : number_of w.in-Err.own ≡ 0 → ⊥ = λ z. let n = named w.in-Err.own in omega (arith, n, z) in (
            rw w.held-is w.in-Err.ensures.few,
            beyond _ _ _ _ _ _ _ l.2 less w.in-Err.ensures c.loop-i.auto.answer p.1 l.1,
            taking-next _ _ _ _ _ _ _ l.2 less w.in-Err.ensures size p.1 fits (λ e. absurd (w.if-atomicity-eq1.false e)) w.held-is
                (flag-set (number_of w.in-Err.own) c.loop-i.failed own w.failed-is),
          )
    ]

pub returns : goal.returns
returns c =
    let l = c.loop-i.invariant in
    let over : length c.args.updates.now ≤ c.loop-i.i = omega arith in
    record { left = λ t. (taking-end _ _ _ _ _ _ _ l.2 over t).0; pairs = λ t. (taking-end _ _ _ _ _ _ _ l.2 over t).1 }
