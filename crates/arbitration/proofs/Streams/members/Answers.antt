-- Right because the count is that of the numbers whose stream is of the role. Assumes nothing.
use borrow.Author.Rules.{rules}
use borrow.Author.Tests.{tests}
use mathlib.Core.Path.{◌≡◌, refl, ap, ◌∙◌}
use lib.ListN.{length}
use Rattle.std.proofs.lemmas.Iterator.{YieldsList-from_range}
use Rattle.std.proofs.lemmas.Iterator.Consumers.{YieldsList-at, YieldsList-from_filter, count_from_yields_List}
use Rattle.rules.specs.Streams.{in_role, stream_at}
use Rattle.arbitration.specs.Meaning.{streams_of}
use Rattle.arbitration.proofs.Places.{sized}
use Rattle.arbitration.proofs.Passing.{passing}
use Rattle.arbitration.proofs.Streams.members.Goals as goal

pub returns : goal.returns
returns c =
    let a = c.args in
    let e = streams_of a.self.now in
    let n : length a.self.now.streams ≡ 32 = search rules in
    let p = in_role a.role in
    let counted = count_from_yields_List c.filter.result c.count.result c.count.ensures.ran
    (YieldsList-from_filter _ (λ k. p (stream_at e k)) (YieldsList-at c.filter.ensures.source (YieldsList-from_range 0 32 32 refl refl))
    c.filter.ensures.closure (λ x r q k. search (rules, tests))) in
    counted ∙ ap length (passing e p (sized a.self.now n))
