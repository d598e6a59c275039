-- Right because the entries written and those of the table that are left make up all of them, so those written are the first. Assumes nothing.
use Prim.Native.Nat.{ℕ, ◌*◌, ◌-◌}
use native.Mathlib.Omega.{arith}
use mathlib.Core.Path.{◌≡◌, sym, ◌∙◌}
use mathlib.Core.List.{List, []}
use lib.ListN.{length, get_or}
use Rattle.buffers.proofs.Splice.{part-copied}
use Rattle.store.proofs.Scan.{gather-start, gather-long, gather-miss, gather-hit, gather-full, gather-end}
use Rattle.store.proofs.gather.Goals as goal
use Rattle.store.proofs.gather.Goals.{then-is_in+else-answer-at-lt-ENTRY, else-is_in}

pub loop-entry-init : goal.loop-entry-init
loop-entry-init c = gather-start _ _ _

pub returns-then-answer-at-lt-ENTRY : goal.returns-then-answer-at-lt-ENTRY
returns-then-answer-at-lt-ENTRY c =
    let g = c.loop-entry.invariant in
    let both = gather-full g (omega arith) (sym c.is_in.ensures ∙ c.if-is_in.true) (omega (arith, gather-long g)) in
    record { count = both.0; records = both.1 }

pub loop-entry-preserved : goal.loop-entry-preserved
loop-entry-preserved c =
    let e : List ℕ = get_or c.args.entries.now c.loop-entry.entry-index [] in
    let x : List ℕ = c.loop-entry.answer in
    let at : ℕ = 220 * c.loop-entry.n in
    let g = c.loop-entry.invariant in
    let size : length e ≡ 220 = c.told-entries c.loop-entry.entry-index (omega arith) in
    elim c.if-is_in.branch [
      | then-is_in+else-answer-at-lt-ENTRY w ↦
          let r = part-copied x w.write_entry.new.dst e at (length x - at) w.write_entry.ensures (omega arith) (omega arith) in
          gather-hit g (omega arith) size (sym c.is_in.ensures ∙ w.if-is_in.true) (omega (arith, gather-long g)) (w.answer-is ∙ r) w.n-is
      | else-is_in w ↦ gather-miss g (omega arith) (sym c.is_in.ensures ∙ w.if-is_in.false) w.answer-is w.n-is
    ]

pub returns : goal.returns
returns c = let both = gather-end c.loop-entry.invariant (omega arith) in record { count = both.0; records = both.1 }
