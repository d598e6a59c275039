-- Right because what is kept is before the part that is lent to the read. Assumes nothing.
use Prim.Native.Nat.{ℕ, ◌-◌, ◌≤◌}
use native.Mathlib.Omega.{arith}
use mathlib.Core.Path.{◌≡◌, sym, ap, ◌∙◌}
use mathlib.Core.List.{List}
use lib.ListN.{length, take, drop}
use lib.Seq.{take_at}
use borrow.Rule.Slice.PartMut.{put_mid, take_put}
use Rattle.rules.specs.Bytes.{part}
use Rattle.buffers.proofs.Splice.{splice_front, length-window}
use Rattle.play.proofs.refill.Goals as goal

pub returns-clause-kept : goal.returns-clause-kept
returns-clause-kept c =
    let a = c.args in
    let rest : ℕ = a.filled - a.at in
    let kept : List ℕ = part a.at rest a.input.now in
    let bytes : List ℕ = c.compact-rest.new.input in
    let l : length kept ≡ rest = length-window a.at rest a.input.now (omega (arith, c.requires.room)) in
    let e : take rest bytes ≡ kept =
    ap (take rest) (c.compact-rest.ensures.bytes ∙ splice_front a.input.now kept) ∙ take_at kept (drop (length kept) a.input.now) rest l in
    let same : c.compact-rest.result ≡ rest = c.compact-rest.ensures.count in
    let within : c.compact-rest.result ≤ length bytes = omega (arith, c.compact-rest.auto.input, same, c.requires.room) in
    ap (λ (n : ℕ). take n (put_mid c.compact-rest.result (length bytes - c.compact-rest.result) bytes c.read.new.part)) (sym same)
    ∙ take_put c.compact-rest.result (length bytes - c.compact-rest.result) bytes c.read.new.part within ∙ ap (λ (n : ℕ). take n bytes) same ∙ e
