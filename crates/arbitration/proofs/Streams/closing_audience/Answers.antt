-- Right because a stream is the primary of its role where it is bound to it and the role's primary is its number. Assumes nothing.
use borrow.Author.Rules.{rules}
use mathlib.Core.Path.{◌≡◌, refl, sym, ap, ◌∙◌}
use mathlib.Core.Bool.{true, false}
use Rattle.rules.specs.Streams.{is, primary}
use Rattle.election.specs.Meaning.{binding_of}
use Rattle.arbitration.specs.Meaning.{streams_of, records_of}
use Rattle.arbitration.proofs.Events.{primary-closes, other-closes}
use Rattle.arbitration.proofs.Streams.closing_audience.Goals as goal

pub returns-in-Bound : goal.returns-in-Bound
unfolding records_of
returns-in-Bound c =
    let e = streams_of c.args.self.now in
    let led : is c.args.stream (primary e c.in-Bound.role) ≡ true = search rules in
    primary-closes e c.args.stream (ap binding_of (sym c.in-Bound.is) ∙ c.binding.ensures) c.in-Bound.role refl led

pub returns-in_default : goal.returns-in_default
unfolding records_of
returns-in_default c =
    let e = streams_of c.args.self.now in
    let led : is c.args.stream (primary e c.in-Bound.role) ≡ false = search rules in
    other-closes e c.args.stream (ap binding_of (sym c.in-Bound.is) ∙ c.binding.ensures) led

pub returns-in_default-2 : goal.returns-in_default-2
unfolding records_of
returns-in_default-2 c = other-closes (streams_of c.args.self.now) c.args.stream c.binding.ensures (search rules)
