-- Right because the tests are made in the order of the reasons. Assumes nothing.
use Prim.Native.Nat.{ℕ}
use native.Mathlib.Omega.{arith}
use mathlib.Core.Path.{◌≡◌, refl, sym, ◌∙◌}
use mathlib.Core.Bool.{Bool, true, false}
use mathlib.Core.List.{List}
use lib.Dec.{leb}
use lib.ListN.{length}
use borrow.Author.Tests.{le-leb, lt-leb}
use Rattle.rules.specs.Row.{Row}
use Rattle.rules.specs.Update.{Tables, held}
use Rattle.rows.specs.Meaning.{row_of}
use Rattle.judging.proofs.Place.{insert-present, insert-table-full, insert-no-room, insert-absent}
use Rattle.judging.proofs.judge_insert.Goals as goal

-- whether the table holds as many entries as it may, told of the number and the size that were read from its row
counted : (row : Row) (t : Tables) {table size : ℕ} {r : Bool} → table ≡ row.table → size ≡ row.size → r ≡ leb size (held table t)
    → r ≡ leb row.size (held row.table t)
counted row t p q e = rw (p, q) at e

pub returns-then-is_some-clause-judged : goal.returns-then-is_some-clause-judged
returns-then-is_some-clause-judged c =
    let a = c.args in
    λ e p. (sym (insert-present (row_of a.row.now) e a.entries.now a.place p (sym c.is_some.ensures ∙ c.if-is_some.true)), omega arith)

pub returns-then-holds-clause-judged : goal.returns-then-holds-clause-judged
returns-then-holds-clause-judged c =
    let a = c.args in
    let row = row_of a.row.now in
    let few = counted row (record { entries = a.entries.now }) c.table.ensures c.size.ensures c.holds.ensures in
    λ e p. (
      sym (insert-table-full row e a.entries.now a.place p (sym c.is_some.ensures ∙ c.if-is_some.false) (sym few ∙ c.if-holds.true)),
      omega arith,
    )

pub returns-then-entries-ge256-clause-judged : goal.returns-then-entries-ge256-clause-judged
returns-then-entries-ge256-clause-judged c =
    let a = c.args in
    let row = row_of a.row.now in
    let es : List (List ℕ) = a.entries.now in
    let few = counted row (record { entries = es }) c.table.ensures c.size.ensures c.holds.ensures in
    let full : leb 256 (length es) ≡ true = le-leb 256 (length es) c.if-entries-ge256.true in
    λ e p. (
      sym (insert-no-room row e es a.place p (sym c.is_some.ensures ∙ c.if-is_some.false) (sym few ∙ c.if-holds.false) full),
      omega arith,
    )

pub returns-clause-judged : goal.returns-clause-judged
returns-clause-judged c =
    let a = c.args in
    let row = row_of a.row.now in
    let es : List (List ℕ) = a.entries.now in
    let few = counted row (record { entries = es }) c.table.ensures c.size.ensures c.holds.ensures in
    let more : leb 256 (length es) ≡ false = lt-leb 256 (length es) c.if-entries-ge256.false in
    λ e p. (sym (insert-absent row e es a.place p (sym c.is_some.ensures ∙ c.if-is_some.false) (sym few ∙ c.if-holds.false) more), refl)
