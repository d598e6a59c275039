-- A line that is written piece by piece. Assumes nothing.
use Rattle.std.specs.Prelude.{◌≡◌, List, ℕ, ◌+◌, ◌≤◌, length}
use Rattle.buffers.specs.Splice.{splice}
use Rattle.transcript.specs.declared.Line.{Line}

-- the buffer has room for more text
abbrev pub HasRoom : Line → List ℕ → Type 0
HasRoom line text = line.at + length text ≤ length line.out.now

-- Text was added to a line: it is over the bytes of the same buffer where the line ended, and the line ends after it.
pub record Adds (before : Line) (text : List ℕ) (after : Line) : Type 0 where
  pub same : after.out.ghost_name ≡ before.out.ghost_name
  pub place : after.at ≡ before.at + length text
  pub within : after.at ≤ length before.out.now
  pub bytes : after.out.now ≡ splice before.out.now before.at text
