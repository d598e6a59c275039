-- Right because the digits are stripped and then padded, each in their place, where they are not in shortest form already. Assumes nothing.
use Prim.Native.Nat.{ℕ, ◌+◌, ◌≤◌, min}
use native.Mathlib.Omega.{arith}
use mathlib.Core.Path.{◌≡◌, sym, ap, ap₂, ◌∙◌}
use mathlib.Core.Bool.{false}
use mathlib.Core.List.{List}
use lib.ListN.{length}
use borrow.Author.Tests.{ne_eqb}
use Rattle.rules.specs.Bytes.{byte, part}
use Rattle.rules.specs.Value.{stripped, padded, short, is_short}
use Rattle.rules.proofs.Tests.{contradiction, same_true, eq-same}
use Rattle.rules.proofs.Lists.{part-part}
use Rattle.rules.proofs.Shortest.{part_length, short-unused}
use Rattle.buffers.specs.Splice.{splice}
use Rattle.buffers.proofs.Splice.{splice-same}
use Rattle.values.proofs.Compared.{digits-at-most}
use Rattle.values.proofs.InPlace.{value-in-place}
use Rattle.values.proofs.shorten_at.Goals as goal

-- what is not in shortest form is a value
used : (v : List ℕ) → is_short v ≡ false → byte 0 v ≡ 0 → ⊥
used v e z = contradiction (eq-same (sym (short-unused v z))) e

-- and the digits are those that the length byte says, as many as there are
counted : (d v : List ℕ) (at n : ℕ) → at + 17 ≤ length d → v ≡ part at 17 d → is_short v ≡ false → n ≡ min 16 (byte 0 v)
    → (1 ≤ n) × (n ≤ 16) × (part (at + 1) n d ≡ part 1 (byte 0 v) v)
counted d v at n h p s c =
    let u = used v s in
    let l : length v ≡ 17 = ap length p ∙ part_length at 17 d h in
    let some : 1 ≤ n = omega arith in
    let few : n ≤ 16 = omega arith in
    (some, few, sym (part-part at 17 1 n d (omega arith)) ∙ ap (part 1 n) (sym p) ∙ digits-at-most v n l c)

pub returns-then-is_short : goal.returns-then-is_short
returns-then-is_short c =
    let a = c.args in
    let d : List ℕ = a.dst.now in
    let v : List ℕ = c.value_at-v.result.now in
    sym (splice-same d a.at 17 (omega arith))
    ∙ ap (splice d a.at) (sym c.value_at-v.ensures ∙ same_true v (short v) (sym c.is_short.ensures ∙ c.if-is_short.true)
    ∙ ap short c.value_at-v.ensures)

pub strip_at-digits-requires : goal.strip_at-digits-requires
strip_at-digits-requires c =
    let l = counted c.args.dst.now c.value_at-v.result.now c.args.at c.digit_count-n.result c.requires c.value_at-v.ensures
    (sym c.is_short.ensures ∙ c.if-is_short.false) c.digit_count-n.ensures in
    (omega arith, omega arith)

pub returns : goal.returns
unfolding short
returns c =
    let s = c.strip_at-digits in
    let a = c.args in
    let d : List ℕ = a.dst.now in
    let v : List ℕ = c.value_at-v.result.now in
    let not_short : is_short v ≡ false = sym c.is_short.ensures ∙ c.if-is_short.false in
    let l = counted d v a.at c.digit_count-n.result c.requires c.value_at-v.ensures not_short c.digit_count-n.ensures in
    let ds : List ℕ = stripped (part (a.at + 1) c.digit_count-n.result d) in
    rw (← c.value_at-v.ensures, ne_eqb (byte 0 v) 0 (used v not_short))
    (c.pad_at.ensures
    ∙ ap₂ (λ (x : List ℕ) (m : ℕ). splice x a.at (padded (part (a.at + 1) m x))) s.ensures.bytes s.ensures.count
    ∙ value-in-place d ds a.at (omega (arith, s.ensures.count)) (omega arith)
    ∙ ap (λ (x : List ℕ). splice d a.at (padded (stripped x))) l.2)
