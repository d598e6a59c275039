-- Right because a refused READ is answered by its head alone, and the entries written are those shown. Assumes nothing.
use Prim.Native.Nat.{ℕ, ◌-◌}
use native.Mathlib.Omega.{arith}
use mathlib.Core.Path.{◌≡◌, sym}
use Rattle.rules.specs.Named.{number_of}
use Rattle.rules.proofs.Refused.{table-refused}
use Rattle.frames.specs.declared.TableCommand.TheVariants.{Read}
use Rattle.frames.specs.Meaning.{table_read}
use Rattle.memory.specs.Handles.{at_tables}
use Rattle.memory.proofs.Handled.{refused}
use Rattle.answers.proofs.AnswerBytes.{head-alone}
use Rattle.rules.proofs.Named.{number_set}
use Rattle.table_commands.proofs.Reading.{entries-read}
use Rattle.table_commands.proofs.read.Goals as goal

pub returns-in-Err : goal.returns-in-Err
returns-in-Err c =
    let a = c.args in
    let r = c.in-Err.reason in
    refused a.agent.now _ a.store.now a.answer.now c.write_head.new.answer (λ z. let w : ◌≡◌ {A = ℕ} 0 1 = cc in omega arith) (number_of r)
    (λ t. table-refused (at_tables a.agent.now t) (table_read (Read a.query) a.frame.now) (sym c.in-Err.ensures) (number_set r))
    (head-alone _ a.answer.now _ (rw c.number.ensures at c.write_head.ensures))

pub returns : goal.returns
returns c =
    let a = c.args in
    let r = c.read-count in
    let h = c.write_head-2 in
    entries-read a.agent.now a.query a.frame.now a.store.now a.answer.now r.new.answer h.new.answer r.result c.requires.0 c.requires.3
    (sym c.in_default.ensures) (rw c.entries.ensures.entries at r.ensures) r.auto.answer h.ensures
