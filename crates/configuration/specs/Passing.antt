-- The parts of 14 that single functions decide. Assumes nothing.
use Rattle.std.specs.Prelude.{Bool, ◌&&◌, List, map, ℕ, ◌*◌, drop}
use Rattle.rules.specs.Bytes.{between, every, distinct, parts, int, all_zero}
use Rattle.rules.specs.Row as rules

-- ---- on the bytes of a row

-- its fields
unfoldable pub fields_pass : List ℕ → Bool
fields_pass b =
    between 1 4 (rules.field_count b)
    && every rules.field_allowed (map rules.field_of (parts (rules.field_count b) 2 (rules.field_bytes b)))
    && all_zero (drop (2 * rules.field_count b) (rules.field_bytes b))

-- one action
unfoldable pub action_passes : List ℕ → Bool
action_passes a = rules.action_allowed (rules.action_of a) && rules.unused_widths a

-- the ids that records begin with: of actions or of rows
unfoldable pub ids : List (List ℕ) → List ℕ
ids records = map (int 0 4) records

-- its actions
unfoldable pub actions_pass : List ℕ → Bool
actions_pass b =
    between 1 4 (rules.action_count b)
    && every action_passes (parts (rules.action_count b) 9 (rules.action_bytes b))
    && distinct (ids (parts (rules.action_count b) 9 (rules.action_bytes b)))
    && all_zero (drop (9 * rules.action_count b) (rules.action_bytes b))

-- ---- on the bytes of all rows

-- each row by itself, and no table id repeated
unfoldable pub rows_pass : List (List ℕ) → Bool
rows_pass rows =
    every (λ (b : List ℕ). rules.row_allowed (rules.row_of b) && rules.unused_zero b) rows && distinct (ids rows)

-- their sizes
unfoldable pub table_sizes : List (List ℕ) → List ℕ
table_sizes rows = map (λ (b : List ℕ). (rules.row_of b).size) rows
