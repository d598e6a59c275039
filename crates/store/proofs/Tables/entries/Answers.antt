-- Right because the arrays of 220 bytes that a store begins with are its parts, of which it has as many as entries. Assumes nothing.
use Prim.Native.Nat.{ℕ, ◌/◌, ◌≤◌}
use native.Mathlib.Omega.{arith}
use mathlib.Core.Path.{ap, ◌∙◌}
use mathlib.Core.List.{List}
use lib.ListN.{length, take}
use Rattle.keys.proofs.Rest.{chunks-parts}
use Rattle.store.proofs.Writes.{parts-fewer}
use Rattle.store.proofs.Tables.entries.Goals as goal

pub returns-clause-entries : goal.returns-clause-entries
returns-clause-entries c =
    let s : List ℕ = c.args.store.now in
    let n : ℕ = c.args.self.count in
    let all : ℕ = length s / 220 in
    let few : n ≤ all = omega arith in
    ap (take n) (c.as_chunks.ensures.front ∙ chunks-parts all 220 s) ∙ parts-fewer n all 220 s few
