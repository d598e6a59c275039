-- Right because the records are behind the head. Assumes nothing.
use borrow.Author.Rules.{rules}
use Rattle.answers.proofs.AnswerBytes.{records-then-head}
use Rattle.arbitration.specs.Meaning.{streams_of, records_of}
use Rattle.stream_events.proofs.respond.Goals as goal

pub returns : goal.returns
returns c =
    let a = c.args in
    let w = c.write_notifications-count in
    let h = c.write_head in
    records-then-head a.reason w.result (records_of a.notify (streams_of a.streams.now)) a.answer.now w.new.out
    h.new.answer (search rules) w.ensures.count w.auto.out w.ensures.records h.ensures
