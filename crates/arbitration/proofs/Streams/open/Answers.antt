-- Right because the stream becomes open where nothing refuses it. Assumes nothing.
use borrow.Author.Rules.{rules}
use mathlib.Core.Path.{◌≡◌, sym, ◌∙◌}
use lib.ListN.{length}
use Rattle.arbitration.specs.Meaning.{streams_of, records_of}
use Rattle.arbitration.proofs.Places.{sized}
use Rattle.arbitration.proofs.Events.{opens-within}
use Rattle.arbitration.proofs.Streams.open.Goals as goal

pub returns-then-is_ok : goal.returns-then-is_ok
unfolding records_of
returns-then-is_ok c =
    let a = c.args in
    let r = c.open_reason-result in
    let n : length a.self.streams ≡ 32 = search rules in
    opens-within (streams_of a.self) a.stream (sized a.self n) c.binding.ensures r.result r.ensures (rw (sym c.is_ok.ensures.value ∙ c.if-is_ok.true) c.put.ensures)

pub returns-else-is_ok : goal.returns-else-is_ok
unfolding records_of
returns-else-is_ok c =
    let a = c.args in
    let r = c.open_reason-result in
    let n : length a.self.streams ≡ 32 = search rules in
    opens-within (streams_of a.self) a.stream (sized a.self n) c.binding.ensures r.result r.ensures (rw (sym c.is_ok.ensures.value ∙ c.if-is_ok.false))
