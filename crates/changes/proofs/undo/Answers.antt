-- Right because each type of note is undone by the function that leaves what it says. Assumes nothing.
use native.Mathlib.Omega.{arith}
use Prim.Native.Nat.{ℕ}
use mathlib.Core.Path.{◌≡◌, refl}
use mathlib.Core.List.{List}
use lib.ListN.{length}
use Rattle.rules.specs.Bytes.{byte}
use Rattle.changes.proofs.Undoing.{back_one, back-two, back-other}
use Rattle.changes.proofs.undo.Goals as goal
use Rattle.changes.proofs.undo.Goals.{then-tables-ge256-via-then-tables-ge256, then-tables-ge256-via-else-tables-ge256+then-tables-i}

pub returns-then-kind-eq-ADDED : goal.returns-then-kind-eq-ADDED
returns-then-kind-eq-ADDED c =
    let a = c.args in
    let note : List ℕ = a.note.now in
    let s : List ℕ = a.store.now in
    let e : byte 0 note ≡ 1 = c.if-kind-eq-ADDED.true in
    let w = c.without_last in record {
      bound = omega arith;
      left = back_one note a.update.now s s a.tables w.result e
          (record { holds = w.ensures.entries s; few = omega arith; room = refl; beyond = refl }) (λ n. (refl, w.ensures.none n));
    }

pub shape_of-store-then-kind-eq-CHANGED : goal.shape_of-store-then-kind-eq-CHANGED
shape_of-store-then-kind-eq-CHANGED c = c.replace_action.auto.store

pub returns-then-i-tables : goal.returns-then-i-tables
returns-then-i-tables c =
    let a = c.args in
    let note : List ℕ = a.note.now in
    let s : List ℕ = a.store.now in
    let w = c.from-i.ensures in
    let e : byte 0 note ≡ 2 = c.if-kind-eq-CHANGED.true in
    let l : length note ≡ 74 = c.told-note in
    let r = c.replace_action in
    record {
      bound = omega arith;
      left = back-two note a.update.now s r.new.store a.tables a.tables w l e (λ h. r.ensures) (λ n. absurd (n (omega arith)));
    }

pub returns-else-i-tables : goal.returns-else-i-tables
returns-else-i-tables c =
    let a = c.args in
    let note : List ℕ = a.note.now in
    let s : List ℕ = a.store.now in
    let w = c.from-i.ensures in
    let e : byte 0 note ≡ 2 = c.if-kind-eq-CHANGED.true in
    let l : length note ≡ 74 = c.told-note in
    record { bound = omega arith; left = back-two note a.update.now s s a.tables a.tables w l e (λ h. absurd (omega arith)) (λ n. (refl, refl)) }

pub returns-then-tables-ge256-clause-left : goal.returns-then-tables-ge256-clause-left
returns-then-tables-ge256-clause-left c =
    let a = c.args in
    let s : List ℕ = a.store.now in
    back-other a.note.now a.update.now s s a.tables a.tables c.from-i.ensures c.if-kind-eq-ADDED.false c.if-kind-eq-CHANGED.false
    (λ h g. elim c.then-tables-ge256.branch [
      | then-tables-ge256-via-then-tables-ge256 w ↦ absurd (omega arith)
      | then-tables-ge256-via-else-tables-ge256+then-tables-i w ↦ absurd (omega arith)
    ])
    (λ k. (refl, refl))

pub shape_of-store : goal.shape_of-store
shape_of-store c = c.put_back.auto.store

pub returns : goal.returns
returns c =
    let a = c.args in
    let note : List ℕ = a.note.now in
    let s : List ℕ = a.store.now in
    let w = c.from-i.ensures in
    let p = c.put_back in
    let n : byte 0 note ≡ 1 → ⊥ = c.if-kind-eq-ADDED.false in
    let m : byte 0 note ≡ 2 → ⊥ = c.if-kind-eq-CHANGED.false in record {
      bound = p.ensures.few;
      left = back-other note a.update.now s p.new.store a.tables p.result w n m (λ h g. rw c.old_entry.ensures at p.ensures)
          (λ k. absurd (k (omega arith, omega arith)));
    }
