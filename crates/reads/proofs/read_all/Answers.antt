-- Right because the rows are walked in order, and the entries of each are written behind those before. Assumes nothing.
use native.Mathlib.Omega.{arith}
use mathlib.Core.Path.{sym, ◌∙◌}
use Rattle.reads.proofs.Records.{every_long, reading-start, reading-gather, reading-end, unread-hit, unread-miss, unread-none}
use Rattle.reads.proofs.read_all.Goals as goal
use Rattle.reads.proofs.read_all.Goals.{then-asks, else-asks}

pub loop-row-init : goal.loop-row-init
loop-row-init c = reading-start _ _

pub loop-row-preserved : goal.loop-row-preserved
loop-row-preserved c =
    let a = c.args in
    let rows = c.in_force-row-items.result.now in
    let es = a.entries.now in
    let i = c.loop-row.row-index in
    elim c.if-asks.branch [
      | then-asks w ↦
          let u = rw (← w.table.ensures) at (unread-hit a.role a.table rows es i _ c.loop-row-test.true (sym c.asks.ensures ∙ w.if-asks.true)) in
          rw (w.answer-is, w.n-is)
          (reading-gather c.loop-row.invariant w.table.result es _ w.gather-n.new.answer w.gather-n.result u (every_long 220 es c.told-entries)
          w.gather-n.ensures.count w.gather-n.ensures.records)
      | else-asks w ↦
          let u = unread-miss a.role a.table rows es i _ c.loop-row-test.true (sym c.asks.ensures ∙ w.if-asks.false) in
          rw (w.answer-is, w.n-is, ← u) c.loop-row.invariant
    ]

pub returns : goal.returns
returns c =
    let a = c.args in
    let rows = c.in_force-row-items.result.now in
    rw (← c.in_force-row-items.ensures.rows) (reading-end c.loop-row.invariant (unread-none a.role a.table rows a.entries.now c.loop-row.row-index (omega arith)))
