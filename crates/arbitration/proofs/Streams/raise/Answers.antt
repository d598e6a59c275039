-- Right because the mark in its place becomes the higher of itself and the id. Assumes nothing.
use native.Mathlib.Omega.{arith}
use mathlib.Core.Path.{◌≡◌}
use lib.ListN.{length}
use borrow.Author.Rules.{rules}
use Rattle.election.specs.Meaning.{id_of}
use Rattle.arbitration.proofs.Places.{mark_raised, past-raised}
use Rattle.arbitration.proofs.Streams.raise.Goals as goal

pub returns-then-role-lt8 : goal.returns-then-role-lt8
returns-then-role-lt8 c =
    rw c.from-at.ensures
    (mark_raised c.args.self.now c.args.role (id_of c.args.id) c.mark_after.result (rw c.from-at.ensures at c.mark_after.ensures))

pub returns-else-role-lt8 : goal.returns-else-role-lt8
returns-else-role-lt8 c =
    let n : length c.args.self.now.marks ≡ 8 = search rules in
    past-raised c.args.self.now c.args.role (id_of c.args.id) (omega arith)
