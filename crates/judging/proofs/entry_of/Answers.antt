-- Right because the 220 bytes after the type are all that are left of 221. Assumes nothing.
use Prim.Native.Nat.{ℕ, ◌≤◌}
use native.Mathlib.Omega.{arith}
use mathlib.Core.Path.{◌≡◌, ap, ◌∙◌}
use mathlib.Core.List.{List}
use lib.ListN.{length, take, drop, length-drop}
use lib.Seq.{take_all}
use borrow.Author.Rules.{rules}
use Rattle.judging.proofs.entry_of.Goals as goal

pub returns : goal.returns
returns c =
    let u : List ℕ = c.args.update.now in
    let all : length (drop 1 u) ≤ 220 = simp length-drop (omega (arith, c.told-update)) in
    let front : c.unwrap.result.now ≡ take 220 (take 220 (drop 1 u)) = search rules in
    front ∙ ap (take 220) (take_all 220 (drop 1 u) all) ∙ take_all 220 (drop 1 u) all
