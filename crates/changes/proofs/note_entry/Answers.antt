-- Right because the type, the place and the action are written one after the other. Assumes nothing.
use Prim.Native.Nat.{ℕ, ◌+◌, ◌*◌, ◌-◌}
use native.Mathlib.Omega.{arith}
use mathlib.Core.Path.{◌≡◌, ◌∙◌}
use mathlib.Core.List.{List}
use lib.ListN.{length, set, length-set}
use Rattle.rules.specs.Bytes.{part}
use Rattle.buffers.proofs.Splice.{part-copied, splice-end, length-window}
use Rattle.changes.proofs.Undoing.{note-written}
use Rattle.changes.proofs.note_entry.Goals as goal

pub returns : goal.returns
returns c =
    let a = c.args in
    let w = c.copy in
    let i : ℕ = a.i in
    let note : List ℕ = a.note.now in
    let head : List ℕ = set (set note 0 a.kind) 1 i in
    let from : ℕ = 220 * i + 148 in
    let action : List ℕ = part from 72 a.store.now in
    let n : length note ≡ 74 = c.told-note in
    let l : length head ≡ 74 = simp length-set n in
    let e : length action ≡ 72 = length-window from 72 a.store.now (omega arith) in
    let k : from + 72 - from ≡ 72 = omega arith in
    part-copied head w.new.dst action 2 72 (rw k at w.ensures) (omega arith) (omega arith)
    ∙ splice-end head 2 action (omega arith)
    ∙ note-written note action a.kind i n
