-- Right because four entries more are passed over where none of them has the word. Assumes nothing.
use Prim.Native.Nat.{◌+◌, ◌-◌, ◌≤◌, ◌<◌, ℕ}
use mathlib.Core.Path.{◌≡◌}
use mathlib.Core.Bool.{false}
use mathlib.Core.List.{[]}
use lib.Dec.{eqb}
use lib.ListN.{length, get_or}
use Rattle.rules.specs.Bytes.{part}
use Rattle.buffers.specs.Word.{little_endian}
use Rattle.store.proofs.pass_over.Given as goal

abbrev pub invariant-loop-i : goal.invariant-loop-i
invariant-loop-i l =
    (l.from ≤ l.i) × (l.i < length l.entries)
    × ((j : ℕ) → l.from ≤ j → j < l.i → eqb (little_endian (part (4 + l.probe.at) 8 (get_or l.entries j []))) l.probe.word ≡ false)

abbrev pub decreases-loop-i : goal.decreases-loop-i
decreases-loop-i l = length l.entries - l.i
