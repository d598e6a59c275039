-- Right because the tests stand in the order of the rules for what the stream is. Assumes nothing.
use borrow.Author.Rules.{rules}
use mathlib.Core.Path.{refl, ap, ◌∙◌}
use mathlib.Core.Bool.{not}
use mathlib.Core.List.{[], ◌∷◌}
use lib.Dec.{eqb, leb}
use Rattle.rules.specs.Named.{reason_of}
use Rattle.rules.specs.Streams.{address_order}
use Rattle.rules.proofs.Orders.{first_found}
use Rattle.std.specs.Prelude.{Err}
use Rattle.std.proofs.lemmas.Result.{err_from_is_err_and}
use Rattle.rules.specs.Reason.{first}
use Rattle.rules.proofs.Named.{number_set}
use Rattle.leadership.proofs.ArbitrateReason.{reason-shown}
use Rattle.leadership.proofs.Scan.reason.Goals as goal

pub returns-in_err-address_reason-in-Open : goal.returns-in_err-address_reason-in-Open
unfolding first
returns-in_err-address_reason-in-Open c =
    let a = c.args in
    let e = c.in_err-address_reason-in-Open in
    let p = err_from_is_err_and c.from_residual.result c.from_residual.ensures.1 in
    let elsewhere = not (eqb a.head.device a.device) in
    let others = (a.self.used, 8) ∷ (leb 8 a.self.members, 9) ∷ [] in
    reason-shown a.self a.head a.device
    (ap reason_of (p.1 ∙ ap Err p.2)
    ∙ rw c.in-Open.is (first_found (address_order elsewhere a.head.role) others refl e.ensures (number_set e.field-0.0)))

pub returns-then-self : goal.returns-then-self
unfolding first
returns-then-self c = reason-shown c.args.self c.args.head c.args.device (search rules)

pub returns-then-self-ge8 : goal.returns-then-self-ge8
unfolding first
returns-then-self-ge8 c = reason-shown c.args.self c.args.head c.args.device (search rules)

pub returns-then-not-here : goal.returns-then-not-here
unfolding first
returns-then-not-here c = reason-shown c.args.self c.args.head c.args.device (search rules)

pub returns-then-self-2 : goal.returns-then-self-2
unfolding first
returns-then-self-2 c = reason-shown c.args.self c.args.head c.args.device (search rules)

pub returns-in-Closed : goal.returns-in-Closed
unfolding first
returns-in-Closed c = reason-shown c.args.self c.args.head c.args.device (search rules)

pub returns-else-self-ge8 : goal.returns-else-self-ge8
unfolding first
returns-else-self-ge8 c = reason-shown c.args.self c.args.head c.args.device (search rules)

pub returns-else-self-2 : goal.returns-else-self-2
unfolding first
returns-else-self-2 c = reason-shown c.args.self c.args.head c.args.device (search rules)
