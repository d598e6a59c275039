-- Right because each turn puts one byte of the shortest form more below what was read, from the last of the eight down. Assumes nothing.
use Prim.Native.Nat.{ℕ, ◌+◌, ◌-◌, ◌^◌, ◌<◌}
use mathlib.Core.Path.{◌≡◌}
use mathlib.Core.List.{List}
use lib.ListN.{take, drop}
use Rattle.rules.specs.Bytes.{part}
use Rattle.rules.specs.Value.{padded}
use Rattle.buffers.specs.Word.{little_endian}
use Rattle.values.proofs.short_word.Given as goal

-- the shortest form, by where the number begins
abbrev pub Form : List ℕ → ℕ → ℕ → List ℕ
Form v n first = padded (part first (n + 1 - first) v)

abbrev pub invariant-loop-k : goal.invariant-loop-k
invariant-loop-k l = (l.x < 256 ^ (8 - l.k)) × (l.x ≡ little_endian (take (8 - l.k) (drop (l.at + l.k) (Form l.v l.n l.first))))
