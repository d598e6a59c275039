-- Right because the bytes from the place on are moved up by an entry's width, and the entry fills the gap. Assumes nothing.
use Prim.Native.Nat.{ℕ, ◌+◌, ◌*◌, ◌-◌}
use native.Mathlib.Numerals.{add-one}
use native.Mathlib.Omega.{arith}
use mathlib.Core.Path.{◌≡◌, ap, ◌∙◌}
use mathlib.Core.List.{List, ◌++◌}
use lib.ListN.{length, take, drop, length-append}
use Rattle.buffers.specs.Splice.{splice}
use Rattle.buffers.proofs.Splice.{part-copied, splice-before, drop-splice, length-splice, length-window}
use Rattle.store.proofs.Writes.{parts-open}
use Rattle.store.proofs.put_back.Goals as goal

pub returns : goal.returns
returns c =
    let a = c.args in
    let w = c.copy in
    let s : List ℕ = a.store.now in
    let e : List ℕ = a.entry.now in
    let at : ℕ = 220 * a.i in
    let k : ℕ = 220 * a.tables.count - at in
    let moved : List ℕ = take k (drop at s) in
    let l : length moved ≡ k = length-window at k s (omega arith) in
    let n : length (splice s (at + 220) moved) ≡ length s = length-splice s (at + 220) moved (omega arith) in
    let both : length (e ++ moved) ≡ length e + length moved = length-append e moved in
    let q : length c.shift.new.s ≡ length s = ap length c.shift.ensures ∙ n in
    let back = part-copied c.shift.new.s w.new.dst e at (at + 220 - at) w.ensures (omega arith) (omega arith)
    ∙ ap (λ (x : List ℕ). splice x at e) c.shift.ensures
    ∙ splice-before s at (at + 220) moved e (omega arith) (omega arith) in
    rw (back, add-one) (record {
      holds = parts-open a.i a.tables.count 220 s e k (omega arith) (omega arith) (omega arith) (omega arith);
      few = omega arith;
      room = length-splice s at (e ++ moved) (omega arith);
      beyond = drop-splice 56_320 s at (e ++ moved) (omega arith) (omega arith);
    })
