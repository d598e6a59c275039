-- Right because all bytes are copied, and each turn brings one more of the slots into shortest form in place, the last first.
-- Assumes nothing.
use Prim.Native.Nat.{ℕ, ◌+◌, ◌*◌, ◌-◌}
use native.Mathlib.Omega.{arith}
use mathlib.Core.Path.{◌≡◌, ap, ◌∙◌}
use mathlib.Core.List.{List, ◌++◌, map}
use lib.ListN.{length, take, drop}
use Rattle.rules.specs.Bytes.{concat, part, parts}
use Rattle.rules.specs.Key.{short_slot}
use Rattle.rules.proofs.Shortest.{part_length, slot-length}
use Rattle.buffers.specs.Splice.{splice}
use Rattle.values.proofs.InPlace.{replaced-none, replaced-next, replaced-all, key-parts}
use Rattle.values.proofs.shorten_key.Goals as goal

pub loop-i-init : goal.loop-i-init
loop-i-init c = replaced-none short_slot 35 _ _ 148

pub loop-i-preserved : goal.loop-i-preserved
loop-i-preserved c =
    let a = c.args in
    let k : List ℕ = part 0 148 a.entry.now in
    let lk : length k ≡ 148 = part_length 0 148 a.entry.now (omega arith) in
    let m = c.copy in
    let s = c.shorten_slot in
    let i : ℕ = c.loop-i.i in
    replaced-next short_slot 35 k a.dst.now m.new.dst m.ensures slot-length (35 * i + 8) (35 * (i - 1) + 8) (4 - i) (4 - (i - 1))
    c.loop-i.dst s.new.dst (omega arith) (omega arith) (omega arith) c.loop-i.invariant s.ensures

pub returns : goal.returns
returns c =
    let a = c.args in
    let k : List ℕ = part 0 148 a.entry.now in
    let lk : length k ≡ 148 = part_length 0 148 a.entry.now (omega arith) in
    let m = c.copy in
    let e : c.loop-i.i ≡ 0 = omega arith in
    replaced-all short_slot 35 k a.dst.now m.new.dst m.ensures (35 * c.loop-i.i + 8) (4 - c.loop-i.i) c.loop-i.dst (omega arith)
    c.loop-i.invariant
    ∙ ap (λ (i : ℕ). splice a.dst.now 0 (take (35 * i + 8) k ++ concat (map short_slot (parts (4 - i) 35 (drop (35 * i + 8) k))))) e
    ∙ ap (splice a.dst.now 0) (key-parts a.entry.now)
