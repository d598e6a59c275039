-- What the functions of a READ are held to, in the rules' terms. Assumes nothing.
use Rattle.std.specs.Prelude.{◌≡◌, Bool, List, ◌++◌, ℕ, ◌/◌, min, eqb, length, take, if◌then◌else◌}
use Rattle.rules.specs.Frame.{entry_size, rest_size}
use Rattle.rules.specs.Bytes.{keep, concat, part}
use Rattle.rules.specs.Reason.{when}
use Rattle.rules.specs.Row.{Row, table_order}
use Rattle.rules.specs.Key.{short_key, has_key, key_order}
use Rattle.rules.specs.Update as rules
use Rattle.rules.specs.Call.{gathered}
use Rattle.rules.specs.Sound.{Distinct}
use Rattle.buffers.specs.Splice.{splice}

-- the key of a READ in its 149 bytes from the table on: table 4, only 1, key 144
abbrev pub key_in : List ℕ → List ℕ
key_in b = part 0 4 b ++ part 5 rest_size b

-- 15 and 16 of a table and, with only 1, 17 to 19 of a key, by whether the table is known and its row: the rules' `query_order` of a
-- table that is named
abbrev pub table_query_order : Bool → Row → ℕ → ℕ → List ℕ → List (Bool × ℕ)
table_query_order is_known row role only k = table_order is_known row role ++ when (eqb only 1) (key_order row k)

-- the entries that a READ asks for: with only 1 that of the key
unfoldable pub read_in : List Row → ℕ → ℕ → ℕ → List ℕ → rules.Tables → List (List ℕ)
read_in rows role table only k t =
    if eqb only 1 then keep (has_key (short_key k)) t.entries else gathered role table rows t

-- the first n of these entries are written to the start of an answer: all of them, or as many as it has room for
abbrev pub Reads : List (List ℕ) → List ℕ → List ℕ → ℕ → Type 0
Reads es before after n = (n ≡ min (length es) (length before / entry_size)) × (after ≡ splice before 0 (concat (take n es)))

-- Where keys are distinct, a READ writes the entry of a key in shortest form, or what it asks for, of the entries es.
abbrev pub ReadsKey : List ℕ → List (List ℕ) → List ℕ → List ℕ → ℕ → Type 0
ReadsKey k es before after n = Distinct es → Reads (keep (has_key k) es) before after n

abbrev pub ReadsQuery : List Row → ℕ → ℕ → ℕ → List ℕ → List (List ℕ) → List ℕ → List ℕ → ℕ → Type 0
ReadsQuery rows role table only k es before after n =
    Distinct es → Reads (read_in rows role table only k (record { entries = es })) before after n
