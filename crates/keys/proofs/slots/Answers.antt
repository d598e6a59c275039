-- Right because 140 bytes are four arrays of 35. Assumes nothing.
use Prim.Native.Nat.{ℕ, ◌/◌, ◌≤◌}
use native.Mathlib.Omega.{arith}
use mathlib.Core.Path.{◌≡◌, ap, ◌∙◌}
use mathlib.Core.List.{List}
use lib.ListN.{length, drop, length-drop}
use lib.Seq.{take_all}
use Rattle.std.specs.Simd.{first_chunks}
use Rattle.rules.specs.Bytes.{parts}
use Rattle.keys.proofs.Rest.{chunks-parts}
use Rattle.keys.proofs.slots.Goals as goal

pub returns : goal.returns
returns c =
    let r : List ℕ = c.args.rest.now in
    let all : List ℕ = c.array_at-all.result.now in
    let rest : length (drop 4 r) ≤ 140 = simp length-drop (omega arith) in
    let is : all ≡ drop 4 r = c.array_at-all.ensures ∙ take_all 140 (drop 4 r) rest in
    let long : length all ≡ 140 = omega arith in
    c.as_chunks.ensures.front ∙ ap (λ (n : ℕ). first_chunks 35 (n / 35) all) long ∙ chunks-parts 4 35 all ∙ ap (parts 4 35) is
