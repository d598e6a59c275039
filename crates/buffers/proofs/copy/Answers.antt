-- Right because the bytes are stored in turn. Assumes nothing.
use native.Mathlib.Nat.{zero-add}
use native.Mathlib.Omega.{arith}
use mathlib.Core.Path.{◌∙◌, ap}
use mathlib.Core.List.{List}
use Prim.Native.Nat.{ℕ}
use lib.ListN.{get_or, set}
use Rattle.buffers.proofs.Splice.{splice-none, splice-more}
use Rattle.buffers.proofs.copy.Goals as goal

pub loop-i-init : goal.loop-i-init
loop-i-init c = splice-none c.args.dst.now 0

pub loop-i-preserved : goal.loop-i-preserved
loop-i-preserved c =
    let a = c.args in
    let i : ℕ = c.loop-i.i in
    ap (λ (l : List ℕ). set l i (get_or a.src.now i 0)) c.loop-i.invariant
    ∙ (rw zero-add at (splice-more a.dst.now 0 a.src.now i (omega arith) (omega arith)))
