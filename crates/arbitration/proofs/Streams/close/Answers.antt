-- Right because the stream becomes closed where nothing refuses it, and it was where something does. Assumes nothing.
use mathlib.Core.Path.{sym, ◌∙◌}
use Rattle.arbitration.specs.Meaning.{streams_of}
use Rattle.arbitration.proofs.Events.{closes}
use Rattle.arbitration.proofs.Streams.close.Goals as goal

pub returns-then-is_ok : goal.returns-then-is_ok
returns-then-is_ok c =
    let a = c.args in
    let r = c.close_reason-result in
    let n = c.closing_audience-notify in
    closes (streams_of a.self) a.stream c.binding.ensures r.result r.ensures (rw (sym c.is_ok.ensures.value ∙ c.if-is_ok.true) c.put.ensures)
    n.result n.ensures

pub returns-else-is_ok : goal.returns-else-is_ok
returns-else-is_ok c =
    let a = c.args in
    let r = c.close_reason-result in
    let n = c.closing_audience-notify in
    closes (streams_of a.self) a.stream c.binding.ensures r.result r.ensures (rw (sym c.is_ok.ensures.value ∙ c.if-is_ok.false))
    n.result n.ensures
