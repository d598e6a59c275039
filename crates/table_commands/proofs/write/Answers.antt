-- Right because a refused WRITE is answered by its head alone, and the batch of any other is the rules'. Assumes nothing.
use Prim.Native.Nat.{ℕ, ◌-◌}
use native.Mathlib.Omega.{arith}
use mathlib.Core.Path.{◌≡◌, sym, ap, ◌∙◌}
use mathlib.Core.List.{List}
use lib.ListN.{length, drop, length-take, length-drop}
use Rattle.rules.specs.Bytes.{parts}
use Rattle.rules.specs.Named.{number_of, reason_of}
use Rattle.rules.proofs.Formed.{parts-count, parts-lengths}
use Rattle.rules.proofs.Refused.{table-refused}
use Rattle.election.specs.Meaning.{head_of}
use Rattle.frames.specs.declared.TableCommand.TheVariants.{Write}
use Rattle.frames.specs.Meaning.{table_read}
use Rattle.memory.specs.Handles.{at_tables}
use Rattle.memory.proofs.Handled.{refused}
use Rattle.answers.proofs.AnswerBytes.{head-alone}
use Rattle.rules.proofs.Named.{number_set}
use Rattle.table_commands.proofs.Writing.{batch-written}
use Rattle.table_commands.proofs.write.Goals as goal

pub returns-in-Err : goal.returns-in-Err
returns-in-Err c =
    let a = c.args in
    let r = c.in-Err.reason in
    refused a.agent.now _ a.store.now a.answer.now c.write_head.new.answer (λ z. let w : ◌≡◌ {A = ℕ} 0 1 = cc in omega arith) (number_of r)
    (λ t. table-refused (at_tables a.agent.now t) (table_read (Write a.asked) a.frame.now) (sym c.in-Err.ensures) (number_set r))
    (head-alone _ a.answer.now _ (rw c.number.ensures at c.write_head.ensures))

pub batch-done-requires : goal.batch-done-requires
batch-done-requires c =
    let p = c.requires in
    let l : length c.updates_in.result.now ≡ c.args.asked.count =
    ap length c.updates_in.ensures ∙ parts-count c.args.asked.count 221 (drop 29 c.args.frame.now) in
    (p.1, p.2, omega (arith, l, p.0.0), simp (length-take, length-drop) (omega (arith, l, p.0.0, p.3)))

pub returns : goal.returns
returns c =
    let a = c.args in
    let n = a.asked.count in
    let f : List ℕ = drop 29 a.frame.now in
    let b = c.batch-done in
    let g = c.head_reason-result in
    let h = c.write_head-2 in
    batch-written a.agent.now (head_of a.asked.head) a.asked.atomicity (parts n 221 f) a.store.now b.new.store a.answer.now b.new.answer
    h.new.answer n (reason_of g.result) b.result (omega (arith, c.requires.3))
    (parts-lengths n 221 f (omega (arith, length-drop 29 a.frame.now, c.requires.0.1))) (sym (parts-count n 221 f)) (sym c.in_default.ensures)
    (rw c.updates_in.ensures at b.ensures.left) (rw c.updates_in.ensures at b.ensures.pairs) b.auto.answer g.ensures
    (rw c.number-2.ensures at h.ensures)
