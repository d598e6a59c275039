-- Right because what refuses the command is the rules' own, and what it leaves otherwise is stored. Assumes nothing.
use mathlib.Core.Path.{◌≡◌, refl, ap, ◌∙◌}
use Prim.Native.Nat.{ℕ}
use Rattle.std.proofs.lemmas.Result.{err_from_is_err_and}
use Rattle.rules.specs.Named.{number_of, reason_of}
use Rattle.frames.specs.Meaning.{pipeline_read}
use Rattle.answers.proofs.AnswerBytes.{head-alone}
use Rattle.rules.proofs.Named.{number_set}
use Rattle.agent.proofs.Ways.{pipeline-refused-handled, pipeline-handled}
use Rattle.agent.proofs.on_pipeline.Goals as goal

pub returns-in_err-refusal : goal.returns-in_err-refusal
returns-in_err-refusal c store =
    let a = c.args in
    let p = err_from_is_err_and c.from_residual.result c.from_residual.ensures.1 in
    let r = c.in_err-refusal.field-0.0 in
    let n : c.number.result ≡ number_of r = c.number.ensures ∙ ap reason_of c.in_err-refusal.was in
    rw (p.1, p.2)
    (pipeline-refused-handled a.agent.now store a.answer.now c.write_head.new.answer (pipeline_read a.command a.frame.now) (number_of r)
    c.in_err-refusal.ensures (head-alone _ a.answer.now _ (rw n at c.write_head.ensures)) (number_set r))

pub returns : goal.returns
returns c store =
    let a = c.args in
    let n : c.number.result ≡ 0 = c.number.ensures ∙ ap reason_of c.in_ok-refusal.was in
    pipeline-handled a.agent.now store a.answer.now c.write_head.new.answer (pipeline_read a.command a.frame.now) 0
    c.in_ok-refusal.ensures (head-alone _ a.answer.now _ (rw n at c.write_head.ensures)) refl c.carry_out-left.result c.carry_out-left.ensures
