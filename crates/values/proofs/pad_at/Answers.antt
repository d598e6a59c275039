-- Right because count, digits and zeros come one after the other, and the digits are where they were. Assumes nothing.
use Prim.Native.Nat.{ℕ, ◌+◌, ◌-◌}
use native.Mathlib.Omega.{arith}
use mathlib.Core.Path.{◌≡◌, sym, ap, ◌∙◌}
use mathlib.Core.List.{List}
use lib.ListN.{length, set, replicate, length-set, length-replicate}
use borrow.Rule.Slice.PartMut.{same_len_mid}
use Rattle.buffers.proofs.Splice.{length-window, part-replaced}
use Rattle.values.proofs.InPlace.{pad-in-place}
use Rattle.values.proofs.pad_at.Goals as goal

pub shape_of-dst : goal.shape_of-dst
shape_of-dst c =
    let a = c.args in
    let d : List ℕ = a.dst.now in
    let past : ℕ = a.at + a.digits + 1 in
    let m = c.clear in
    same_len_mid past (a.at + 17 - past) (set d a.at a.digits) m.new.dst m.auto.dst
    ∙ length-set d a.at a.digits

pub returns : goal.returns
returns c =
    let a = c.args in
    let d : List ℕ = a.dst.now in
    let n : ℕ = a.digits in
    let past : ℕ = a.at + n + 1 in
    let m = c.clear in
    let l : length (set d a.at n) ≡ length d = length-set d a.at n in
    let left : a.at + 17 - past ≡ 16 - n = omega arith in
    let w = length-window past (a.at + 17 - past) (set d a.at n) (omega arith) in
    part-replaced (set d a.at n) m.new.dst (replicate (16 - n) 0) past (a.at + 17 - past)
    (m.ensures ∙ ap (λ (k : ℕ). replicate k 0) (w ∙ left)) (length-replicate (16 - n) 0 ∙ sym left)
    ∙ pad-in-place d a.at n (omega arith) (omega arith)
