-- Right because the count so far and the entries of the table that are left make up all of them. Assumes nothing.
use Prim.Native.Nat.{ℕ}
use native.Mathlib.Omega.{arith}
use mathlib.Core.Path.{sym, ap, ◌∙◌}
use mathlib.Core.List.{List}
use lib.ListN.{length}
use Rattle.store.proofs.Scan.{left-hit, left-miss, left-none, held-left}
use Rattle.store.proofs.held.Goals as goal
use Rattle.store.proofs.held.Goals.{then-is_in, else-is_in}

pub loop-e-init : goal.loop-e-init
loop-e-init c = (omega arith, held-left c.args.table c.args.entries.now)

pub loop-e-preserved : goal.loop-e-preserved
loop-e-preserved c =
    let es : List (List ℕ) = c.args.entries.now in
    let i : ℕ = c.loop-e.e-index in
    elim c.if-is_in.branch [
      | then-is_in w ↦
          let p = ap length (left-hit c.args.table es i (omega arith) (sym c.is_in.ensures ∙ w.if-is_in.true)) in
          (omega (arith, w.n-is), omega (arith, p, w.n-is, c.loop-e.invariant.1))
      | else-is_in w ↦
          let p = ap length (left-miss c.args.table es i (omega arith) (sym c.is_in.ensures ∙ w.if-is_in.false)) in
          (omega (arith, w.n-is), omega (arith, p, w.n-is, c.loop-e.invariant.1))
    ]

pub returns : goal.returns
returns c =
    omega (arith, c.loop-e.invariant.1, ap length (left-none c.args.table c.args.entries.now c.loop-e.e-index (omega arith)))
