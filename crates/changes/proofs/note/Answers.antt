-- Right because an INSERT needs no more than its type, and the others the action of the entry that they found. Assumes nothing.
use native.Mathlib.Omega.{arith}
use Prim.Native.Nat.{ℕ}
use mathlib.Core.Path.{refl, sym, ap, ◌∙◌}
use mathlib.Core.List.{List, ◌∷◌}
use Rattle.std.specs.Prelude.{Ok}
use Rattle.changes.proofs.Undoing.{action-at, type-written}
use Rattle.changes.proofs.note.Goals as goal

pub returns-in-Err : goal.returns-in-Err
returns-in-Err g c = rw c.in-Err.is refl

pub returns-in-Ok-Insert : goal.returns-in-Ok-Insert
returns-in-Ok-Insert g c =
    rw (c.in-Ok-Insert.is ∙ ap Ok (rw c.in-Ok-Insert.is at c.in-Ok-Insert.field-0-is)) (type-written c.args.note.now 1 c.told-note)

pub note_entry-requires : goal.note_entry-requires
note_entry-requires g c =
    let h = rw (c.in-Ok-Modify.is ∙ ap Ok (rw c.in-Ok-Modify.is at c.in-Ok-Modify.field-0-is)) at c.requires.0 in
    (omega (arith, h), omega (arith, h))

pub returns-in-Ok-Modify : goal.returns-in-Ok-Modify
returns-in-Ok-Modify g c =
    let a = c.args in
    let i : ℕ = c.in-Ok-Modify.i in
    let its = c.in-Ok-Modify.is ∙ ap Ok (rw c.in-Ok-Modify.is at c.in-Ok-Modify.field-0-is) in
    let h = rw its at c.requires.0 in
    rw its (c.note_entry.ensures ∙ ap (λ (e : List ℕ). 2 ∷ i ∷ e) (sym (action-at i a.tables a.store.now h)))

pub note_entry-requires-in-Ok-Delete : goal.note_entry-requires-in-Ok-Delete
note_entry-requires-in-Ok-Delete g c =
    let h = rw (c.in-Ok-Delete.is ∙ ap Ok (rw c.in-Ok-Delete.is at c.in-Ok-Delete.field-0-is)) at c.requires.0 in
    (omega (arith, h), omega (arith, h))

pub returns-in-Ok-Delete : goal.returns-in-Ok-Delete
returns-in-Ok-Delete g c =
    let a = c.args in
    let i : ℕ = c.in-Ok-Delete.i in
    let its = c.in-Ok-Delete.is ∙ ap Ok (rw c.in-Ok-Delete.is at c.in-Ok-Delete.field-0-is) in
    let h = rw its at c.requires.0 in
    rw its (c.note_entry-in-Ok-Delete.ensures ∙ ap (λ (e : List ℕ). 3 ∷ i ∷ e) (sym (action-at i a.tables a.store.now h)))
