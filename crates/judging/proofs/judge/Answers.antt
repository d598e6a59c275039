-- Right because the reasons are asked for in their order, by the row of the update's table, and the place is that of its key.
-- Assumes nothing.
use Prim.Native.Nat.{ℕ}
use native.Mathlib.Omega.{arith}
use mathlib.Core.Path.{◌≡◌, refl, sym, ap, ◌∙◌}
use mathlib.Core.Bool.{true, false}
use mathlib.Core.List.{List, ◌++◌}
use Rattle.std.specs.Prelude.{Option, Some, Result}
use Rattle.std.specs.Option.{option_copied, option_map_or}
use Rattle.std.specs.Borrow.{Bor}
use Rattle.std.proofs.lemmas.Result.{err_from_is_err_and}
use lib.ListN.{take, drop}
use lib.Seq.{take-add}
use borrow.Author.Tests.{ne_eqb}
use Rattle.rules.specs.Bytes.{byte, between}
use Rattle.rules.specs.Key.{short_key, table_of}
use Rattle.rules.specs.declared.Reason.{Reason}
use Rattle.rules.specs.Named.{number_of}
use Rattle.rules.specs.Row.{known, row_for, no_row}
use Rattle.rules.proofs.Shortest.{key-of-key}
use Rattle.rows.specs.declared.Row as held
use Rattle.rows.specs.Meaning.{row_of, rows_of, row_found}
use Rattle.store.specs.Store.{place}
use Rattle.judging.specs.declared.Change.{Change}
use Rattle.judging.specs.Verdict.{Justified}
use Rattle.rules.proofs.Named.{named}
use Rattle.judging.proofs.Order.{type-refused, table-refused, entry-refused, place-judged}
use Rattle.judging.proofs.judge.Goals as goal

-- the table that was looked up is that of the update
asked : {n : ℕ} {entry : List ℕ} (u : List ℕ) → n ≡ table_of entry → entry ≡ drop 1 u → n ≡ table_of (drop 1 u)
asked u e w = e ∙ ap table_of w

-- the place that was found by the two parts of a key is that of the update's key
found : (u : List ℕ) (es : List (List ℕ)) {entry : List ℕ} {at : Option ℕ} → at ≡ place (short_key (take 4 entry ++ take 144 (drop 4 entry))) es
    → entry ≡ drop 1 u → at ≡ place (short_key (drop 1 u)) es
found u es {entry} e w =
    e ∙ ap (λ (k : List ℕ). place k es) (ap short_key (sym (take-add 4 144 entry)) ∙ key-of-key entry ∙ ap short_key w)

-- what is right of the type as it was read is right of the update's
of-type : {type kind : ℕ} (e : List ℕ) (es : List (List ℕ)) (v : Result Change Reason) → type ≡ kind → Justified number_of v type e es
    → Justified number_of v kind e es
of-type e es v k j = rw k at j

-- the row that is lent is the one that was found
lent : (found : Option (Bor held.Row)) (row : held.Row) → option_copied found ≡ Some row → row_of row ≡ row_found found
lent found row e = sym (ap (λ (o : Option held.Row). option_map_or row_of o no_row) e)

pub returns-then-not-is_type-clause-reason : goal.returns-then-not-is_type-clause-reason
returns-then-not-is_type-clause-reason c =
    let a = c.args in
    let none : between 1 3 (byte 0 a.update.now) ≡ false = sym c.is_type.ensures ∙ c.if-not-is_type.true in
    type-refused (rows_of a.rows.now) a.role (record { entries = a.entries.now }) a.update.now refl refl none

pub returns-in_err-row-clause-reason : goal.returns-in_err-row-clause-reason
returns-in_err-row-clause-reason c =
    let a = c.args in
    let rows = rows_of a.rows.now in
    let u : List ℕ = a.update.now in
    let table = asked u c.integer.ensures c.entry_of-entry.ensures in
    let p = err_from_is_err_and c.from_residual.result c.from_residual.ensures.1 in
    let typed : between 1 3 (byte 0 u) ≡ true = sym c.is_type.ensures ∙ c.if-not-is_type.false in
    let why = c.in_err-row.ensures.reason in
    rw (p.1, p.2) (table-refused rows a.role (record { entries = a.entries.now }) u
    (c.find.ensures.known ∙ ap (λ (n : ℕ). known n rows) table)
    (c.find.ensures.row ∙ ap (λ (n : ℕ). row_for n rows) table) typed why (λ z. let n = named c.in_err-row.field-0.0 in omega (arith, n, z)))

pub returns-in_err-entry_reason-clause-reason : goal.returns-in_err-entry_reason-clause-reason
returns-in_err-entry_reason-clause-reason c =
    let a = c.args in
    let rows = rows_of a.rows.now in
    let u : List ℕ = a.update.now in
    let table = asked u c.integer.ensures c.entry_of-entry.ensures in
    let p = err_from_is_err_and c.from_residual-in_err-entry_reason.result c.from_residual-in_err-entry_reason.ensures.1 in
    let typed : between 1 3 (byte 0 u) ≡ true = sym c.is_type.ensures ∙ c.if-not-is_type.false in
    rw (p.1, p.2) (entry-refused rows a.role (record { entries = a.entries.now }) u
    (c.find.ensures.known ∙ ap (λ (n : ℕ). known n rows) table)
    (c.find.ensures.row ∙ ap (λ (n : ℕ). row_for n rows) table) typed c.in_ok-row.ensures.reason
    (lent c.find.result c.in_ok-row.row.now c.in_ok-row.ensures.row) c.entry_of-entry.ensures c.in_err-entry_reason.ensures
    (λ z. let n = named c.in_err-entry_reason.field-0.0 in omega (arith, n, z)))

pub returns-then-kind-eq-INSERT-clause-reason : goal.returns-then-kind-eq-INSERT-clause-reason
returns-then-kind-eq-INSERT-clause-reason c =
    let a = c.args in
    let rows = rows_of a.rows.now in
    let u : List ℕ = a.update.now in
    let table = asked u c.integer.ensures c.entry_of-entry.ensures in
    let typed : between 1 3 (byte 0 u) ≡ true = sym c.is_type.ensures ∙ c.if-not-is_type.false in
    let right = c.judge_insert.ensures.judged (drop 1 u) (found u a.entries.now c.find-place.ensures.place c.entry_of-entry.ensures) in
    place-judged rows a.role (record { entries = a.entries.now }) u
    (c.find.ensures.known ∙ ap (λ (n : ℕ). known n rows) table)
    (c.find.ensures.row ∙ ap (λ (n : ℕ). row_for n rows) table) typed c.in_ok-row.ensures.reason
    (lent c.find.result c.in_ok-row.row.now c.in_ok-row.ensures.row) c.entry_of-entry.ensures c.in_ok-entry_reason.ensures
    (sym c.if-kind-eq-INSERT.true) right.0

pub returns-then-kind-eq-INSERT-clause-justified : goal.returns-then-kind-eq-INSERT-clause-justified
returns-then-kind-eq-INSERT-clause-justified c =
    let a = c.args in
    let u : List ℕ = a.update.now in
    let right = c.judge_insert.ensures.judged (drop 1 u) (found u a.entries.now c.find-place.ensures.place c.entry_of-entry.ensures) in
    of-type (drop 1 u) a.entries.now c.judge_insert.result (sym c.if-kind-eq-INSERT.true) right.1

pub judge_change-requires : goal.judge_change-requires
judge_change-requires c = ne_eqb _ _ c.if-kind-eq-INSERT.false

pub returns-clause-reason : goal.returns-clause-reason
returns-clause-reason c =
    let a = c.args in
    let rows = rows_of a.rows.now in
    let u : List ℕ = a.update.now in
    let table = asked u c.integer.ensures c.entry_of-entry.ensures in
    let typed : between 1 3 (byte 0 u) ≡ true = sym c.is_type.ensures ∙ c.if-not-is_type.false in
    let row = c.in_ok-row.row.now in
    let right = c.judge_change.ensures.judged (row_of row) a.entries.now (drop 1 u)
    (found u a.entries.now c.find-place.ensures.place c.entry_of-entry.ensures) in
    place-judged rows a.role (record { entries = a.entries.now }) u
    (c.find.ensures.known ∙ ap (λ (n : ℕ). known n rows) table)
    (c.find.ensures.row ∙ ap (λ (n : ℕ). row_for n rows) table) typed c.in_ok-row.ensures.reason
    (lent c.find.result row c.in_ok-row.ensures.row) c.entry_of-entry.ensures c.in_ok-entry_reason.ensures refl right.0

pub returns-clause-justified : goal.returns-clause-justified
returns-clause-justified c =
    let a = c.args in
    let u : List ℕ = a.update.now in
    let right = c.judge_change.ensures.judged no_row a.entries.now (drop 1 u)
    (found u a.entries.now c.find-place.ensures.place c.entry_of-entry.ensures) in
    right.1
