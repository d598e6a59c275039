-- Right because an accepted ARBITRATE binds the stream, and each refusal leaves it closed: under 4 it was. Assumes nothing.
use borrow.Author.Rules.{rules}
use mathlib.Core.Path.{◌≡◌, sym, ap, ◌∙◌}
use Rattle.rules.specs.Named.{reason_of}
use Rattle.rules.specs.Streams.{Outcome}
use Rattle.election.specs.Meaning.{head_of}
use Rattle.arbitration.specs.Meaning.{streams_of}
use Rattle.arbitration.proofs.Places.{bound-raised}
use Rattle.arbitration.proofs.Events.{arbitrate-binds, arbitrate-closes, arbitrate-keeps, arbitrate-leaves, refused}
use Rattle.arbitration.proofs.Streams.arbitrate.Goals as goal

pub returns-in-Ok : goal.returns-in-Ok
returns-in-Ok c =
    let a = c.args in
    let e = streams_of a.self in
    let h = head_of a.head in
    let w = c.scan-scan.ensures in
    let p = c.reason-result.ensures e a.stream w in
    let left = ap (λ (o : Outcome). o.after) (arbitrate-binds e a.stream a.device h (sym (ap reason_of c.in-Ok.is) ∙ p)) in
    let bound = bound-raised e (streams_of c.raise.new.self) a.stream a.head c.raise.ensures in
    arbitrate-leaves e a.stream a.device h c.audience-notify.result (c.put.ensures ∙ bound ∙ left) p (c.audience-notify.ensures a.device e w p)

pub returns-in-Err-NotOpen : goal.returns-in-Err-NotOpen
returns-in-Err-NotOpen c =
    let a = c.args in
    let e = streams_of a.self in
    let h = head_of a.head in
    let w = c.scan-scan.ensures in
    let p = c.reason-result.ensures e a.stream w in
    let four : reason_of c.reason-result.result ≡ 4 = search rules in
    arbitrate-leaves e a.stream a.device h c.audience-notify.result (arbitrate-keeps e a.stream a.device h (sym four ∙ p)) p
    (c.audience-notify.ensures a.device e w p)

pub returns-in-Err : goal.returns-in-Err
returns-in-Err c =
    let a = c.args in
    let e = streams_of a.self in
    let h = head_of a.head in
    let w = c.scan-scan.ensures in
    let p = c.reason-result.ensures e a.stream w in
    let left = ap (λ (o : Outcome). o.after) (arbitrate-closes e a.stream a.device h p (refused c.in-Err.is)) in
    arbitrate-leaves e a.stream a.device h c.audience-notify.result (c.put-in-Err.ensures ∙ left) p (c.audience-notify.ensures a.device e w p)
