-- Right because the digits of the shortest form are moved down to the first place, where they are already if none is dropped.
-- Assumes nothing.
use Prim.Native.Nat.{ℕ, ◌+◌, ◌-◌}
use native.Mathlib.Omega.{arith}
use mathlib.Core.Path.{◌≡◌, sym, ap, ◌∙◌}
use mathlib.Core.List.{List}
use lib.ListN.{length}
use Rattle.rules.specs.Bytes.{part}
use Rattle.rules.specs.Value.{stripped}
use Rattle.rules.proofs.Shortest.{part_length}
use Rattle.buffers.specs.Splice.{splice}
use Rattle.buffers.proofs.Splice.{splice-same}
use Rattle.values.proofs.strip_at.Goals as goal

pub returns-then-first-eq1 : goal.returns-then-first-eq1
returns-then-first-eq1 c =
    let a = c.args in
    let d : List ℕ = a.dst.now in
    let n : ℕ = a.n in
    let f : n + 1 - 1 ≡ n = omega arith in
    let e : stripped (part (a.at + 1) n d) ≡ part (a.at + 1) n d =
    c.significant-first.ensures.digits ∙ ap (λ (i : ℕ). part (a.at + i) (n + 1 - i) d) c.if-first-eq1.true ∙ ap (λ (m : ℕ). part (a.at + 1) m d) f in record { bound = omega arith; count = sym (ap length e ∙ part_length (a.at + 1) n d (omega arith)); bytes = sym (ap (splice d (a.at + 1)) e ∙ splice-same d (a.at + 1) n (omega arith)) }

pub returns : goal.returns
returns c =
    let a = c.args in
    let d : List ℕ = a.dst.now in
    let first : ℕ = c.significant-first.result in
    let e : stripped (part (a.at + 1) a.n d) ≡ part (a.at + first) (a.n + 1 - first) d = c.significant-first.ensures.digits in
    let moved : c.shift.new.s ≡ splice d (a.at + 1) (part (a.at + first) (a.n + 1 - first) d) =
    c.shift.ensures in record { bound = omega arith; count = sym (ap length e ∙ part_length (a.at + first) (a.n + 1 - first) d (omega arith)); bytes = moved ∙ ap (splice d (a.at + 1)) (sym e) }
