-- Right because the four bytes and then those of the id are the record. Assumes nothing.
use Prim.Native.Nat.{ℕ, ◌-◌}
use native.Mathlib.Omega.{arith}
use mathlib.Core.Path.{◌≡◌, refl, sym, ap, ap₂, ◌∙◌}
use mathlib.Core.List.{List, [], ◌∷◌}
use Rattle.std.specs.Prelude.{if◌then◌else◌}
use mathlib.Core.Bool.{Bool, true, false, not}
use mir.Val.{bool_byte}
use lib.Dec.{eqb}
use lib.ListN.{length}
use lib.Seq.{sets, sets-eq, length-sets}
use Rattle.rules.specs.Bytes.{bytes_of}
use Rattle.rules.specs.Streams.{notice_of}
use Rattle.rules.proofs.Sizes.{bytes-length}
use Rattle.buffers.specs.Splice.{splice}
use Rattle.buffers.proofs.Splice.{part-copied, splice_front, splice-next}
use Rattle.election.specs.Meaning.{id_of}
use Rattle.leadership.proofs.Leadership.write_notification.Goals as goal

flag : (b : Bool) → bool_byte (not b) ≡ (if b then 0 else 1)
flag true = refl
flag false = refl

pub returns : goal.returns
unfolding notice_of
returns c =
    let a = c.args in
    let d : List ℕ = a.out.now in
    let xs : List ℕ = a.stream ∷ a.self.role ∷ c.status.result ∷ c.from.result ∷ [] in
    let front : List ℕ = sets d 0 xs in
    let m = id_of a.self.mark in
    let ys : List ℕ = bytes_of 16 m in
    let n : length ys ≡ 16 = bytes-length 16 m in
    let l : length front ≡ length d = length-sets d 0 xs in
    part-copied front c.write.new.out ys 4 (length front - 4) c.write.ensures (omega arith) (omega arith)
    ∙ ap (λ (x : List ℕ). splice x 4 ys) (sets-eq xs d 0 (omega arith) ∙ sym (splice_front d xs))
    ∙ splice-next d 0 4 xs ys refl (omega arith)
    ∙ ap₂ (λ (t g : ℕ). splice d 0 (a.stream ∷ a.self.role ∷ t ∷ g ∷ ys)) c.status.ensures
    (c.from.ensures ∙ ap bool_byte c.is_set.ensures ∙ flag (eqb m 0))
