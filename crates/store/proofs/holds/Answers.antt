-- Right because a table holds no more entries than the store. Assumes nothing.
use native.Mathlib.Omega.{arith}
use mathlib.Core.Path.{sym, ◌∙◌}
use borrow.Author.Tests.{lt-leb}
use Rattle.rules.specs.Update.{in_table, held as held_in}
use Rattle.rules.proofs.Tables.{keep-fewer}
use Rattle.store.proofs.holds.Goals as goal

pub returns-else-size-entries : goal.returns-else-size-entries
unfolding held_in
returns-else-size-entries c =
    let few = keep-fewer (in_table c.args.table) c.args.entries.now in
    lt-leb _ _ c.if-size-entries.false ∙ sym (lt-leb _ _ (omega (arith, few)))
