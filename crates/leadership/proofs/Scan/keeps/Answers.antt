-- Right because the pair stays where no mark rises and the stream is the primary after as before. Assumes nothing.
use native.Mathlib.Omega.{arith}
use mathlib.Core.Path.{◌≡◌, sym, ◌∙◌}
use lib.Dec.{eqb}
use borrow.Author.Rules.{rules}
use borrow.Author.Tests.{not-true}
use Rattle.rules.specs.Streams.{is}
use Rattle.numbers.proofs.Order.{equal_whole, below_whole}
use Rattle.election.specs.Meaning.{id_of}
use Rattle.leadership.specs.Meaning.{primary_of}
use Rattle.leadership.proofs.PairKept.{kept-shown}
use Rattle.leadership.proofs.Scan.keeps.Goals as goal

pub returns-then-not-is_set : goal.returns-then-not-is_set
returns-then-not-is_set c = kept-shown c.args.self c.args.head c.args.stream (search rules)

pub returns-then-lt : goal.returns-then-lt
returns-then-lt c = kept-shown c.args.self c.args.head c.args.stream (search rules)

pub returns : goal.returns
returns c =
    let a = c.args in
    let mark = a.self.leadership.mark in
    let set = not-true (eqb (id_of mark) 0) (sym c.is_set.ensures ∙ c.if-not-is_set.false) in
    let above = sym (below_whole mark.number a.head.id.number (omega arith) (omega arith)) ∙ sym c.lt.ensures ∙ c.if-lt.false in
    let led : c.eq-led.result ≡ is a.stream (primary_of a.self.leadership.primary) = search rules in
    let leads = c.eq-leads.ensures ∙ equal_whole a.head.id.number mark.number (omega arith) (omega arith) in
    kept-shown a.self a.head a.stream (rw (set, above, led, leads))
