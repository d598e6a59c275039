-- The 144 bytes after the table in a key, priority and slots: their shortest form, and where its words are. Assumes nothing.
use Rattle.std.specs.Prelude.{◌≡◌, Bool, true, ◌⊎◌, List, ◌++◌, map, ℕ, ◌+◌, ◌*◌, ◌≤◌, ◌<◌, take, drop}
use Rattle.rules.specs.Frame.{rest_size}
use Rattle.rules.specs.Bytes.{concat, part, parts}
use Rattle.rules.specs.Key.{short_slot}
use Rattle.buffers.specs.Word.{little_endian}

-- the shortest form of a key is its table and this (proofs/Rest: short-key)
unfoldable pub short_rest : List ℕ → List ℕ
short_rest r = take 4 r ++ concat (map short_slot (parts 4 35 (drop 4 r)))

-- where it is said to be so, it is in shortest form
abbrev pub ShortIf : Bool → List ℕ → Type 0
ShortIf short r = short ≡ true → short_rest r ≡ r

-- a place in the 144 bytes is that of a value: the first or the second of a slot
pub record ValueAt (at : ℕ) : Type 0 where
  pub slot : ℕ
  pub few : slot < 4
  pub place : (at ≡ 35 * slot + 5) ⊎ (at ≡ 35 * slot + 22)

-- a place and a word are a probe for a key: the word is the one that the shortest form has there
pub record ProbeOf (r : List ℕ) (at word : ℕ) : Type 0 where
  pub inside : at + 8 ≤ rest_size
  pub there : word ≡ little_endian (part at 8 (short_rest r))
