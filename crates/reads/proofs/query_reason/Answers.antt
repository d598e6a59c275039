-- Right because table 0 names none, the table's reasons come first, and then those of the key by the table's row. Assumes nothing.
use Prim.Native.Nat.{ℕ, ◌-◌}
use native.Mathlib.Omega.{arith}
use lib.ListN.{length, take, drop}
use lib.Seq.{take-take}
use Rattle.rules.specs.Bytes.{part}
use mathlib.Core.Path.{◌≡◌, refl, sym, ap, ◌∙◌}
use mathlib.Core.List.{List}
use Rattle.std.proofs.Common.{Option, Some, Bor}
use Rattle.std.specs.Option.{option_copied, option_map_or}
use Rattle.std.proofs.lemmas.Result.{err_from_is_err_and}
use Rattle.rules.specs.Row.{no_row}
use Rattle.rows.specs.declared.Row.{Row}
use Rattle.rows.specs.Meaning.{row_of, row_found, rows_of}
use Rattle.reads.specs.Read.{key_in}
use Rattle.rules.proofs.Named.{number_set}
use Rattle.reads.proofs.QueryOrder.{none_named, one-named, by-table, by-nothing, by_key, key-behind}
use Rattle.reads.proofs.query_reason.Goals as goal

pub returns-then-table-eq0 : goal.returns-then-table-eq0
returns-then-table-eq0 c =
    let a = c.args in
    let z = c.if-table-eq0.true in
    none_named (rows_of a.rows.now) a.role a.table a.only (key_in a.query.now) z (λ o. c.requires.1 o z)

pub returns-in_err-row : goal.returns-in_err-row
returns-in_err-row c =
    let a = c.args in
    let p = err_from_is_err_and c.from_residual.result c.from_residual.ensures.1 in
    let r = c.in_err-row.field-0.0 in
    rw (p.1, p.2) (by-table _ _ a.role a.only (key_in a.query.now) c.in_err-row.ensures.reason (number_set r)
    ∙ one-named (rows_of a.rows.now) a.role a.table a.only (key_in a.query.now) c.if-table-eq0.false c.find.ensures.known (λ t. c.find.ensures.row))

-- the key that was lent is the query's, and the row that of the table
lent : (o : Option (Bor Row)) {row : Row} → option_copied o ≡ Some row → row_found o ≡ row_of row
lent o e = ap (λ (r : Option Row). option_map_or row_of r no_row) e

part-lent : (b : List ℕ) {k : List ℕ} → length b ≡ 149 → k ≡ take 144 (take (length b - 5) (drop 5 b)) → k ≡ part 5 144 b
part-lent b l e = e ∙ take-take 144 (length b - 5) (drop 5 b) (omega arith)

pub returns-in_err-key_reason : goal.returns-in_err-key_reason
returns-in_err-key_reason c =
    let a = c.args in
    let b : List ℕ = a.query.now in
    let p = err_from_is_err_and c.from_residual-in_err-key_reason.result c.from_residual-in_err-key_reason.ensures.1 in
    rw (p.1, p.2) (by_key _ _ a.role a.only (key_in b) c.in_ok-row.ensures.reason refl c.if-only-eq1.true
    (rw (lent c.find.result c.in_ok-row.ensures.row) (c.in_err-key_reason.ensures (key_in b) (key-behind b c.requires.0 ∙ sym (part-lent b c.requires.0 (rw c.unwrap.ensures at c.first_chunk.ensures.cases).same))))
    ∙ one-named (rows_of a.rows.now) a.role a.table a.only (key_in b) c.if-table-eq0.false c.find.ensures.known (λ t. c.find.ensures.row))

pub returns-in_ok-key_reason : goal.returns-in_ok-key_reason
returns-in_ok-key_reason c =
    let a = c.args in
    let b : List ℕ = a.query.now in
    by_key _ _ a.role a.only (key_in b) c.in_ok-row.ensures.reason refl c.if-only-eq1.true
    (rw (lent c.find.result c.in_ok-row.ensures.row) (c.in_ok-key_reason.ensures (key_in b) (key-behind b c.requires.0 ∙ sym (part-lent b c.requires.0 (rw c.unwrap.ensures at c.first_chunk.ensures.cases).same))))
    ∙ one-named (rows_of a.rows.now) a.role a.table a.only (key_in b) c.if-table-eq0.false c.find.ensures.known (λ t. c.find.ensures.row)

pub returns-else-only-eq1 : goal.returns-else-only-eq1
returns-else-only-eq1 c =
    let a = c.args in
    by-nothing _ _ a.role a.only (key_in a.query.now) c.in_ok-row.ensures.reason refl c.if-only-eq1.false
    ∙ one-named (rows_of a.rows.now) a.role a.table a.only (key_in a.query.now) c.if-table-eq0.false c.find.ensures.known (λ t. c.find.ensures.row)
