-- Right because with only 1 the entry of the key is written, and otherwise the entries of the rows asked for. Assumes nothing.
use native.Mathlib.Omega.{arith}
use mathlib.Core.Path.{◌≡◌}
use borrow.Author.Tests.{ne_eqb}
use Rattle.reads.specs.Read.{read_in}
use Rattle.reads.proofs.read.Goals as goal

pub returns-in-1 : goal.returns-in-1
unfolding read_in
returns-in-1 c = rw c.in-1.is c.read_one.ensures

pub returns-in_default : goal.returns-in_default
unfolding read_in
returns-in_default c =
    let e : (c.args.only ≡ 1 → ⊥) = omega arith in
    rw (ne_eqb c.args.only 1 e) (λ d. c.read_all.ensures)
