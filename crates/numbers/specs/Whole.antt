-- The number that two halves of 64 bits stand for. Assumes nothing.
use Rattle.std.specs.Prelude.{ℕ, ◌+◌, ◌*◌, ◌^◌}
use Rattle.numbers.specs.declared.Number.{Number}

abbrev pub whole_of : Number → ℕ
whole_of n = n.high * 2 ^ 64 + n.low
