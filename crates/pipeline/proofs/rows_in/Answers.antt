-- Right because the chunks of the library are the parts of the rules. Assumes nothing.
use Prim.Native.Nat.{ℕ, ◌*◌, ◌/◌}
use native.Mathlib.Omega.{arith}
use mathlib.Core.Path.{◌≡◌}
use mathlib.Core.List.{List}
use lib.ListN.{length, drop, length-drop}
use Rattle.std.specs.Simd.{first_chunks}
use Rattle.rules.proofs.Lists.{rest_all}
use Rattle.rows.proofs.Chunks.{chunks-are}
use Rattle.pipeline.proofs.rows_in.Goals as goal

pub returns-clause-rows : goal.returns-clause-rows
returns-clause-rows c =
    let f : List ℕ = c.args.frame.now in
    let n : ℕ = c.args.command.count in
    let e : c.as_chunks.result.0.now ≡ first_chunks 53 (length (drop 28 f) / 53) (drop 28 f) = rw (rest_all 28 f) at c.as_chunks.ensures.front in
    let l : length (drop 28 f) ≡ 53 * n = omega (arith, length-drop 28 f, c.requires.1) in
    chunks-are 53 n (drop 28 f) e (omega (arith, l))
