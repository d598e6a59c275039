-- Right because the first entries stay. Assumes nothing.
use Prim.Native.Nat.{ℕ, ◌-◌}
use native.Mathlib.Omega.{arith}
use mathlib.Core.Path.{◌≡◌, sym, ap, ◌∙◌}
use mathlib.Core.List.{List}
use lib.ListN.{length, take}
use Rattle.rules.specs.Bytes.{parts}
use Rattle.rules.proofs.Formed.{parts-count}
use Rattle.store.proofs.Writes.{parts-fewer}
use Rattle.store.proofs.Tables.without_last.Goals as goal

fewer : (n m : ℕ) (store : List ℕ) → m ≡ n - 1 → parts m 220 store ≡ take (length (parts n 220 store) - 1) (parts n 220 store)
fewer n m store e =
    sym (ap (λ (k : ℕ). take (k - 1) (parts n 220 store)) (parts-count n 220 store)
    ∙ parts-fewer (n - 1) n 220 store (omega arith) ∙ ap (λ (k : ℕ). parts k 220 store) (sym e))

pub returns-clause-entries : goal.returns-clause-entries
returns-clause-entries c = λ store. fewer c.args.self.count c.saturating_sub.result store c.saturating_sub.ensures
