-- Right because a stream of the role other than this one is looked for where the id is set. Assumes nothing.
use borrow.Author.Rules.{rules}
use borrow.Author.Tests.{tests}
use mathlib.Core.Bool.{◌&&◌}
use mathlib.Core.Path.{◌≡◌, refl, sym, ◌∙◌}
use lib.ListN.{length}
use Rattle.std.proofs.lemmas.Iterator.{YieldsList-from_range}
use Rattle.std.proofs.lemmas.Iterator.Search.{any_from_yields_List}
use Rattle.rules.specs.Streams.{holds, stream_at, held_elsewhere}
use Rattle.election.specs.Meaning.{id_of}
use Rattle.leadership.proofs.FirstPassing.{other}
use Rattle.arbitration.specs.Meaning.{streams_of}
use Rattle.arbitration.proofs.Places.{sized}
use Rattle.arbitration.proofs.Passing.{other-passing}
use Rattle.arbitration.proofs.Streams.held_elsewhere.Goals as goal

pub returns-then-is_set : goal.returns-then-is_set
unfolding held_elsewhere
returns-then-is_set c =
    let a = c.args in
    let e = streams_of a.self.now in
    let n : length a.self.now.streams ≡ 32 = search rules in
    let p = holds a.role (id_of a.id) in
    let any = any_from_yields_List (λ k. other a.stream k && p (stream_at e k)) _ _ c.any.result c.any.ensures.ran
    (YieldsList-from_range 0 32 32 refl refl) (λ x b q k. search (rules, tests)) in
    rw (sym c.is_set.ensures ∙ c.if-is_set.true) (any ∙ other-passing e p (sized a.self.now n) a.stream)

pub returns-else-is_set : goal.returns-else-is_set
unfolding held_elsewhere
returns-else-is_set c = rw (← c.is_set.ensures, c.if-is_set.false)
