-- Right because the primary of a role whose mark is set is the first stream that holds it. Assumes nothing.
use borrow.Author.Rules.{rules}
use borrow.Author.Tests.{tests, not-true}
use mathlib.Core.Path.{◌≡◌, refl, sym, ◌∙◌}
use lib.ListN.{length}
use Rattle.std.proofs.lemmas.Iterator.{YieldsList-from_range}
use Rattle.std.proofs.lemmas.Iterator.Search.{find_from_yields_List}
use Rattle.rules.specs.Streams.{holds, stream_at, primary}
use Rattle.election.specs.Meaning.{id_of}
use Rattle.arbitration.specs.Meaning.{streams_of}
use Rattle.arbitration.proofs.Places.{sized}
use Rattle.arbitration.proofs.Passing.{first-passing}
use Rattle.arbitration.proofs.Streams.primary.Goals as goal

pub returns-then-not-is_set : goal.returns-then-not-is_set
unfolding primary
returns-then-not-is_set c = search rules

pub returns : goal.returns
unfolding primary
returns c =
    let a = c.args in
    let e = streams_of a.self.now in
    let n : length a.self.now.streams ≡ 32 = search rules in
    let p = holds a.role (id_of c.mark-mark.result) in
    let found = find_from_yields_List (λ k. p (stream_at e k)) _ _ c.find.result c.find.ensures.ran
    (YieldsList-from_range 0 32 32 refl refl) (λ x b q k. search (rules, tests)) in
    let set = not-true _ (sym c.is_set.ensures ∙ c.if-not-is_set.false) in
    rw (← c.mark-mark.ensures, set) (first-passing e p (sized a.self.now n) c.find.result found)
