-- Right because the action is written after the key of entry i, up to its end. Assumes nothing.
use Prim.Native.Nat.{ℕ, ◌+◌, ◌*◌, ◌-◌}
use native.Mathlib.Omega.{arith}
use mathlib.Core.Path.{◌≡◌, ap, ◌∙◌}
use mathlib.Core.List.{List}
use lib.ListN.{length, drop, length-drop}
use Rattle.rules.specs.Entry.{short_entry}
use Rattle.rules.proofs.Shortest.{entry_length}
use Rattle.buffers.proofs.Splice.{rest_back}
use Rattle.changes.proofs.write_action.Goals as goal

pub returns : goal.returns
returns c =
    let a = c.args in
    let e : List ℕ = short_entry a.entry.now in
    let l : length (drop 148 e) ≡ 72 = length-drop 148 e ∙ ap (λ (n : ℕ). n - 148) (entry_length a.entry.now (omega arith)) in
    let w = c.shorten_action in
    rest_back a.store.now w.new.dst (drop 148 e) (220 * a.i + 148) w.ensures (omega arith)
