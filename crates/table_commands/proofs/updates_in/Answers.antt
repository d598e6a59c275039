-- Right because the chunks of the library are the parts of the rules. Assumes nothing.
use Prim.Native.Nat.{ℕ, ◌*◌, ◌/◌}
use native.Mathlib.Omega.{arith}
use mathlib.Core.Path.{◌≡◌}
use mathlib.Core.List.{List}
use lib.ListN.{length, drop, length-drop}
use Rattle.std.specs.Simd.{first_chunks}
use Rattle.rules.proofs.Lists.{rest_all}
use Rattle.rows.proofs.Chunks.{chunks-are}
use Rattle.table_commands.proofs.updates_in.Goals as goal

pub returns : goal.returns
returns c =
    let f : List ℕ = c.args.frame.now in
    let n : ℕ = c.args.asked.count in
    let e : c.as_chunks.result.0.now ≡ first_chunks 221 (length (drop 29 f) / 221) (drop 29 f) = rw (rest_all 29 f) at c.as_chunks.ensures.front in
    let l : length (drop 29 f) ≡ 221 * n = omega (arith, length-drop 29 f, c.requires.1) in
    chunks-are 221 n (drop 29 f) e (omega (arith, l))
