-- One line of `play`: ordinal, reason, code and count in decimal, then each record in lowercase hex, a blank between
-- (document 01, "Bench cases"). Assumes nothing.
use Rattle.std.specs.Prelude.{Bool, ◌&&◌, List, [], ◌∷◌, ◌++◌, ℕ, zero, suc, ◌+◌, ◌*◌, ◌/◌, ◌%◌, eqb, leb, ltb, length, drop, if◌then◌else◌}
use Rattle.rules.specs.Bytes.{byte, int, parts}
use Rattle.rules.specs.Reason.{code_of}
use Rattle.rules.specs.Frame.{entry_size}
use Rattle.rules.specs.Answer.{Answer}

-- the character of a digit below 16: 0 to 9, a to f
abbrev pub digit : ℕ → ℕ
digit d = if ltb d 10 then 48 + d else 87 + d

-- the last decimal digits of a number, at most so many, with no zero in front
unfoldable pub digits : ℕ → ℕ → List ℕ
digits zero x = []
digits (suc n) x = if ltb x 10 then digit x ∷ [] else digits n (x / 10) ++ (digit (x % 10) ∷ [])

-- a number of 64 bits in decimal: it has 20 digits at most
abbrev pub decimal : ℕ → List ℕ
decimal x = digits 20 x

unfoldable pub hex : List ℕ → List ℕ
hex [] = []
hex (b ∷ bs) = digit (b / 16) ∷ digit (b % 16) ∷ hex bs

abbrev pub blank : ℕ
blank = 32

abbrev pub newline : ℕ
newline = 10

-- each record after a blank
unfoldable pub records_hex : List (List ℕ) → List ℕ
records_hex [] = []
records_hex (r ∷ rs) = (blank ∷ hex r) ++ records_hex rs

-- a number and a blank
abbrev pub field : ℕ → List ℕ
field x = decimal x ++ (blank ∷ [])

-- a line
unfoldable pub printed : ℕ → ℕ → ℕ → List (List ℕ) → List ℕ
printed ordinal reason code records =
    field ordinal ++ (field reason ++ (field code ++ (decimal (length records) ++ (records_hex records ++ (newline ∷ [])))))

-- the line of a call: its ordinal and its answer
abbrev pub line_of : ℕ → Answer → List ℕ
line_of ordinal a = printed ordinal a.reason (code_of a.reason) a.records

-- ---- from the bytes of an answer

-- the size of the records that a frame's command is answered with: notifications 20, pairs 2, entries 220
unfoldable pub record_size : List ℕ → ℕ
record_size [] = 0
record_size (c ∷ operands) =
    if eqb c 0x01 then 20 else if eqb c 0x02 then 20 else if eqb c 0x03 then 20 else
    if eqb c 0x05 then 2 else if eqb c 0x06 then entry_size else 0

-- an answer whose records have this size is whole, and its line has room
unfoldable pub fits : ℕ → ℕ → List ℕ → Bool
fits room size answer =
    let count = int 2 2 answer in
    leb size entry_size && leb 4 (length answer) && leb (4 + size * count) (length answer) && leb (84 + (1 + 2 * size) * count) room

-- the length of the longest line: that of 256 entries, with 84 characters at most beside the records
abbrev pub longest_line : ℕ
longest_line = 112_980

-- the line of an answer's bytes, nothing where it does not fit
unfoldable pub line_in : ℕ → ℕ → ℕ → List ℕ → List ℕ
line_in room ordinal size answer =
    if fits room size answer
    then printed ordinal (byte 0 answer) (byte 1 answer) (parts (int 2 2 answer) size (drop 4 answer)) else []
