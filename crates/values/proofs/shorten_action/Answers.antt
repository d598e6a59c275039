-- Right because all bytes are copied, and each turn brings one more of the parameters into shortest form in place, the last first.
-- Assumes nothing.
use Prim.Native.Nat.{ℕ, ◌+◌, ◌*◌, ◌-◌}
use native.Mathlib.Omega.{arith}
use mathlib.Core.Path.{◌≡◌, ap, ◌∙◌}
use mathlib.Core.List.{List, ◌++◌, map}
use lib.ListN.{length, take, drop}
use Rattle.rules.specs.Bytes.{concat, part, parts}
use Rattle.rules.specs.Value.{short}
use Rattle.rules.proofs.Shortest.{part_length, short-length}
use Rattle.buffers.specs.Splice.{splice}
use Rattle.values.proofs.InPlace.{replaced-none, replaced-next, replaced-all, action-parts}
use Rattle.values.proofs.shorten_action.Goals as goal

pub loop-i-init : goal.loop-i-init
loop-i-init c = replaced-none short 17 _ _ 72

pub loop-i-preserved : goal.loop-i-preserved
loop-i-preserved c =
    let a = c.args in
    let k : List ℕ = part 148 72 a.entry.now in
    let lk : length k ≡ 72 = part_length 148 72 a.entry.now (omega arith) in
    let m = c.copy in
    let s = c.shorten_at in
    let i : ℕ = c.loop-i.i in
    replaced-next short 17 k a.dst.now m.new.dst m.ensures short-length (17 * i + 4) (17 * (i - 1) + 4) (4 - i) (4 - (i - 1))
    c.loop-i.dst s.new.dst (omega arith) (omega arith) (omega arith) c.loop-i.invariant s.ensures

pub returns : goal.returns
returns c =
    let a = c.args in
    let k : List ℕ = part 148 72 a.entry.now in
    let lk : length k ≡ 72 = part_length 148 72 a.entry.now (omega arith) in
    let m = c.copy in
    let e : c.loop-i.i ≡ 0 = omega arith in
    replaced-all short 17 k a.dst.now m.new.dst m.ensures (17 * c.loop-i.i + 4) (4 - c.loop-i.i) c.loop-i.dst (omega arith)
    c.loop-i.invariant
    ∙ ap (λ (i : ℕ). splice a.dst.now 0 (take (17 * i + 4) k ++ concat (map short (parts (4 - i) 17 (drop (17 * i + 4) k))))) e
    ∙ ap (splice a.dst.now 0) (action-parts a.entry.now (omega arith))
