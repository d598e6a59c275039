-- Right because each turn writes the record of the next stream of the list after those before it. Assumes nothing.
use Prim.Native.Nat.{◌+◌, ◌*◌, ◌-◌}
use native.Mathlib.Numerals.{add-one}
use native.Mathlib.Omega.{arith}
use mathlib.Core.Path.{◌≡◌, refl, ap}
use mathlib.Core.List.{◌∷◌, map}
use lib.ListN.{length, get_or, take, drop, length-take}
use lib.Seq.{drop-cons}
use Rattle.rules.proofs.Sizes.{notice-length}
use Rattle.buffers.proofs.Splice.{part-copied}
use Rattle.buffers.proofs.Written.{written_none, written_next, written-length}
use Rattle.election.specs.Meaning.{id_of}
use Rattle.leadership.specs.Meaning.{primary_of, notice_by}
use Rattle.leadership.proofs.write_members.Goals as goal

pub loop-i-init : goal.loop-i-init
loop-i-init c =
    let a = c.args in
    written_none 20 (map (notice_by a.leadership) (take a.count a.members.now)) a.out.now

pub loop-i-preserved : goal.loop-i-preserved
loop-i-preserved c =
    let a = c.args in
    let g = a.leadership in
    let i = c.loop-i.i in
    let o = c.loop-i.out in
    let l = take a.count a.members.now in
    let f = notice_by g in
    let x = f (get_or l i 0) in
    let s : length l ≡ a.count = simp length-take (omega arith) in
    let n = written-length c.loop-i.invariant (omega arith) in
    let z : length x ≡ 20 = notice-length (primary_of g.primary) (id_of g.mark) g.role (get_or l i 0) in
    let q : drop i l ≡ get_or l i 0 ∷ drop (i + 1) l = rw add-one (drop-cons l i 0 (omega arith)) in
    let v = part-copied o c.write_notification.new.out x (20 * i) (length o - 20 * i)
    c.write_notification.ensures (omega arith) (omega arith) in
    written_next c.loop-i.invariant (ap (map f) q) z (omega arith) v refl
