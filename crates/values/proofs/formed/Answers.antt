-- Right because it is the tests of `is_value`, in their order. Assumes nothing.
use Prim.Native.Nat.{ℕ, ◌+◌, ◌≤◌}
use mathlib.Core.Path.{◌≡◌, sym, ap, ◌∙◌}
use mathlib.Core.Bool.{Bool, true, false, ◌&&◌}
use lib.ListN.{drop}
use borrow.Author.Rules.{rules}
use borrow.Author.Tests.{le-leb, leb-true}
use Rattle.rules.specs.Bytes.{byte, between, all_zero}
use Rattle.rules.specs.Value.{is_value}
use Rattle.rules.proofs.Tests.{fails, and-true, both_true}
use Rattle.values.proofs.formed.Goals as goal

pub returns-then-contains : goal.returns-then-contains
unfolding is_value
returns-then-contains c =
    let n : ℕ = byte 0 c.args.v.now in
    let some : 1 ≤ n = search rules in
    let few : n ≤ 16 = search rules in
    let within : between 1 16 n ≡ true = both_true (le-leb 1 n some) (le-leb n 16 few) in
    c.zero_after.ensures ∙ ap (λ (k : ℕ). all_zero (drop (1 + k) c.args.v.now)) c.from-length.ensures
    ∙ sym (ap (λ (b : Bool). b && all_zero (drop (1 + n) c.args.v.now)) within)

pub returns-else-contains : goal.returns-else-contains
unfolding is_value
returns-else-contains c =
    let n : ℕ = byte 0 c.args.v.now in
    let out : 1 ≤ n → n ≤ 16 → ⊥ = λ some few. search rules in
    let within : between 1 16 n ≡ false =
    fails (between 1 16 n) (λ q. let w = and-true _ _ q in out (leb-true 1 n w.0) (leb-true n 16 w.1)) in
    c.if-contains.false ∙ sym (ap (λ (b : Bool). b && all_zero (drop (1 + n) c.args.v.now)) within)
