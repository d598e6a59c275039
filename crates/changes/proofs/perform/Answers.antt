-- Right because what was judged is done by the function that does what it says, and can be done. Assumes nothing.
use Prim.Native.Nat.{ℕ, ◌-◌}
use native.Mathlib.Omega.{arith}
use mathlib.Core.Path.{◌≡◌, refl, ap, ◌∙◌}
use mathlib.Core.List.{List}
use Rattle.std.specs.Prelude.{Ok}
use lib.ListN.{length, drop, length-drop}
use Rattle.rules.specs.Entry.{short_entry}
use Rattle.rules.proofs.Shortest.{entry_length}
use Rattle.store.proofs.Writes.{action-over}
use Rattle.changes.proofs.perform.Goals as goal

pub returns-in-Err : goal.returns-in-Err
returns-in-Err g c = rw c.in-Err.is (record { holds = refl; few = omega arith; room = refl; beyond = refl })

pub insert-requires : goal.insert-requires
insert-requires g c =
    let its = c.in-Ok-Insert.is ∙ ap Ok (rw c.in-Ok-Insert.is at c.in-Ok-Insert.field-0-is) in
    (rw its at c.requires.0, c.requires.2)

pub returns-in-Ok-Insert : goal.returns-in-Ok-Insert
returns-in-Ok-Insert g c = rw (c.in-Ok-Insert.is ∙ ap Ok (rw c.in-Ok-Insert.is at c.in-Ok-Insert.field-0-is)) c.insert.ensures

pub write_action-requires : goal.write_action-requires
write_action-requires g c =
    let h = rw (c.in-Ok-Modify.is ∙ ap Ok (rw c.in-Ok-Modify.is at c.in-Ok-Modify.field-0-is)) at c.requires.0 in
    (omega (arith, h, c.requires.1), c.requires.2)

pub returns-in-Ok-Modify : goal.returns-in-Ok-Modify
returns-in-Ok-Modify g c =
    let a = c.args in
    let e : List ℕ = short_entry a.entry.now in
    let l : length (drop 148 e) ≡ 72 = length-drop 148 e ∙ ap (λ (n : ℕ). n - 148) (entry_length a.entry.now c.told-entry) in
    let its = c.in-Ok-Modify.is ∙ ap Ok (rw c.in-Ok-Modify.is at c.in-Ok-Modify.field-0-is) in
    let inside = rw its at c.requires.0 in
    rw (its, c.write_action.ensures) (action-over _ a.tables a.store.now (drop 148 e) inside c.requires.1 c.requires.2 l)

pub remove-requires : goal.remove-requires
remove-requires g c =
    let its = c.in-Ok-Delete.is ∙ ap Ok (rw c.in-Ok-Delete.is at c.in-Ok-Delete.field-0-is) in
    (rw its at c.requires.0, c.requires.1, c.requires.2)

pub returns-in-Ok-Delete : goal.returns-in-Ok-Delete
returns-in-Ok-Delete g c = rw (c.in-Ok-Delete.is ∙ ap Ok (rw c.in-Ok-Delete.is at c.in-Ok-Delete.field-0-is)) c.remove.ensures
