-- What the values of this crate mean in the rules' terms. Assumes nothing.
use Rattle.std.specs.Prelude.{Bool, ◌&&◌, List, map, ℕ, leb, take, Option}
use Rattle.std.specs.Borrow.{Bor}
use Rattle.std.specs.Option.{option_copied, option_map_or}
use Rattle.rules.specs.Bytes.{every, byte, number, int, parts}
use Rattle.rules.specs.Row as rules
use Rattle.rows.specs.declared.Field.{Field}
use Rattle.rows.specs.declared.Action.{Action}
use Rattle.rows.specs.declared.Row.{Row}
use Rattle.rows.specs.declared.Rows.{Rows}

-- Of fields, actions and widths there are no more than the four that are held, whatever a count says.
abbrev pub field_of : Field → rules.Field
field_of f = record { kind = f.kind; width = f.width }

unfoldable pub action_of : Action → rules.Action
action_of a = record { id = number a.id; widths = take a.count a.widths }

unfoldable pub row_of : Row → rules.Row
row_of r = record {
  table = number r.table;
  owner = r.owner;
  size = number r.size;
  fields = map field_of (take r.field_count r.fields);
  actions = map action_of (take r.action_count r.actions);
}

-- the rows in force: the first of eight
abbrev pub rows_of : Rows → List rules.Row
rows_of c = map row_of (take c.count c.rows)

-- the row that a look-up gave; the empty one where it gave none
abbrev pub row_found : Option (Bor Row) → rules.Row
row_found o = option_map_or row_of (option_copied o) rules.no_row

-- ---- bytes

-- What the nine bytes of an action and the 53 of a row are held as.
unfoldable pub action_read : List ℕ → rules.Action
action_read a = record { id = int 0 4 a; widths = take (rules.parameter_count a) (rules.width_bytes a) }

unfoldable pub row_read : List ℕ → rules.Row
row_read r = record {
  table = int 0 4 r;
  owner = byte 4 r;
  size = int 5 2 r;
  fields = map rules.field_of (take (rules.field_count r) (parts 4 2 (rules.field_bytes r)));
  actions = map action_read (take (rules.action_count r) (parts 4 9 (rules.action_bytes r)));
}

-- of a row's 53 bytes: no count is over 4, so that the row is held as the rules read it
unfoldable pub counts_fit : List ℕ → Bool
counts_fit b =
    leb (rules.field_count b) 4 && leb (rules.action_count b) 4
    && every (λ (a : List ℕ). leb (rules.parameter_count a) 4) (parts (rules.action_count b) 9 (rules.action_bytes b))
