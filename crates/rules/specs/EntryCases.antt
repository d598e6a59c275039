-- Worked cases of configurations (14), updates (17 to 19) and entries: whole frames, and the whole answers that document 01 gives
-- them, written out. Assumes nothing.
use Rattle.std.specs.Prelude.{◌≡◌, List, [], ◌∷◌, ◌++◌, map, ℕ, ◌+◌, ◌-◌, take, drop, set, replicate}
use Rattle.rules.specs.Bytes.{concat}
use Rattle.rules.specs.Key.{omitted, exact, lpm, ternary, range, optional}
use Rattle.rules.specs.Answer.{Reply}
use Rattle.rules.specs.Call.{reply}
use Rattle.rules.specs.Sample.{table#, ones64, over64, ones128, by, open!, close!, arbitrate!, configure!, write!, read_from}
use Rattle.rules.specs.Sample.{read_all!, read_one, field, action, row_with, row, sizeless, val, val1, val2, val3, none17}
use Rattle.rules.specs.Sample.{slot, key_with, key, entry_with, entry, item, insert!, modify!, delete!, leading, configured}
use Rattle.rules.specs.Sample.{command_in, holding, bytes, ok, refused, notice, done, Each, InTurn, batch!, all}

-- ---- configuration and entries

-- a WRITE by the primary of role 0
abbrev send : List (List ℕ) → List ℕ
send us = write! (by 0 5) 0 us

-- tables 2 and 1, in this order, of owners 1 and 0, each of size 2, with an exact field and two actions
abbrev pub tables : List (List ℕ)
tables = map (λ (n : ℕ). row_with n (n - 1) 2 (field exact 8 ∷ []) (action 1 [] ∷ action 2 [] ∷ [])) (2 ∷ 1 ∷ [])

-- and both full, their entries inserted in turn
abbrev pub stocked : List (List ℕ)
stocked =
    configured tables
    ++ (send (insert! (item 1 1 1) ∷ insert! (item 2 1 1) ∷ insert! (item 1 2 1) ∷ insert! (item 2 2 1) ∷ []) ∷ [])

-- what a READ of all then shows: by configuration row and then in order of insertion
abbrev pub stock : Reply
stock = bytes 0 0 4 (item 2 1 1 ∷ item 2 2 1 ∷ item 1 1 1 ∷ item 1 2 1 ∷ [])

-- table 1 with an optional, a ternary, a range and an lpm field of width 16, and action 1 with four parameters of width 16
abbrev pub four16 : List ℕ
four16 =
    row_with 1 0 20 (map (λ (k : ℕ). field k 16) (optional ∷ ternary ∷ range ∷ lpm ∷ [])) (action 1 (replicate 4 16) ∷ [])

-- a key of it, each value with a zero byte before it, and in shortest form
abbrev key_padded : List ℕ
key_padded =
    key_with 1
    (slot optional (val2 0 9) none17
    ∷ slot ternary (val2 0 5) (val2 0 7)
    ∷ slot range (val2 0 1) (val2 0 2)
    ∷ slot lpm (val3 0 0x0A 0) (val2 0 8)
    ∷ [])

abbrev key_shortest : List ℕ
key_shortest =
    key_with 1
    (slot optional (val1 9) none17
    ∷ slot ternary (val1 5) (val1 7)
    ∷ slot range (val1 1) (val1 2)
    ∷ slot lpm (val2 0x0A 0) (val1 8)
    ∷ [])

-- Keys that differ from it in one part: the priority (at 3), the first slot's kind, or a value. The values are at 6 (optional),
-- 41 and 58 (ternary, mask), 76 and 93 (range), 111 and 128 (lpm, prefix length).
abbrev near_keys : List (List ℕ)
near_keys =
    set key_shortest 3 2
    ∷ key_with 1 (slot omitted none17 none17 ∷ drop 39 key_shortest ∷ [])
    ∷ set key_shortest 6 8
    ∷ set key_shortest 41 4
    ∷ set key_shortest 58 5
    ∷ set key_shortest 76 0
    ∷ set key_shortest 93 3
    ∷ set key_shortest 111 0x0B
    ∷ set key_shortest 128 9
    ∷ []

-- an entry of it, with parameters of one byte
abbrev with4 : List ℕ → ℕ → ℕ → ℕ → ℕ → List ℕ
with4 k a b c d = entry_with 1 k 1 (map val1 (a ∷ b ∷ c ∷ d ∷ []))

abbrev with1234 : List ℕ → List ℕ
with1234 k = with4 k 1 2 3 4

-- each sees those before it and succeeds or fails alone; a DELETE's action, here one that no row has, is not looked at
abbrev mixed : List (List ℕ × List ℕ)
mixed =
    (modify! (item 1 1 2), 21 ∷ 5 ∷ [])
    ∷ (insert! (item 1 1 1), done)
    ∷ (insert! (item 1 1 1), 20 ∷ 6 ∷ [])
    ∷ (modify! (item 1 1 2), done)
    ∷ (insert! (item 1 2 1), done)
    ∷ (modify! (item 1 2 3), 17 ∷ 3 ∷ [])
    ∷ (delete! (item 1 2 3), done)
    ∷ (delete! (item 1 2 3), 21 ∷ 5 ∷ [])
    ∷ []

-- ---- the frames of the cases, with their answers

-- Keys are compared as numbers, and stored in shortest form: 0007 is 07, so it is stored already, is read, and deletes it.
abbrev pub padded : List (List ℕ × Reply)
padded =
    (send (insert! (item 1 7 1) ∷ []), bytes 0 0 1 (done ∷ []))
    ∷ (send (insert! (entry 1 (key 0 exact (val2 0 7) none17) 1) ∷ []), bytes 23 2 1 ((20 ∷ 6 ∷ []) ∷ []))
    ∷ (read_one (key 0 exact (val2 0 7) none17), bytes 0 0 1 (item 1 7 1 ∷ []))
    ∷ (send (delete! (entry 1 (key 0 exact (val2 0 7) none17) 1) ∷ []), bytes 0 0 1 (done ∷ []))
    ∷ (read_all!, ok)
    ∷ []

-- zero is one byte 00, also where 16 are given
abbrev pub zeros : List (List ℕ × Reply)
zeros =
    (send (insert! (entry 1 (key 0 exact (val (replicate 16 0)) none17) 1) ∷ []), bytes 0 0 1 (done ∷ []))
    ∷ (read_all!, bytes 0 0 1 (item 1 0 1 ∷ []))
    ∷ []

-- The same of both values of every slot (mask, upper bound and prefix length among them) and of every parameter, in an entry
-- that is inserted and in one that is modified.
abbrev pub shortened : List (List ℕ × Reply)
shortened =
    (send (insert! (entry_with 1 key_padded 1 (map (val2 0) (1 ∷ 2 ∷ 3 ∷ 4 ∷ []))) ∷ []), bytes 0 0 1 (done ∷ []))
    ∷ (read_all!, bytes 0 0 1 (with1234 key_shortest ∷ []))
    ∷ (send (insert! (with1234 key_shortest) ∷ []), bytes 23 2 1 ((20 ∷ 6 ∷ []) ∷ []))
    ∷ (send (modify! (entry_with 1 key_padded 1 (map (val3 0 0) (5 ∷ 6 ∷ 0 ∷ 8 ∷ []))) ∷ []), bytes 0 0 1 (done ∷ []))
    ∷ (read_one key_padded, bytes 0 0 1 (with4 key_shortest 5 6 0 8 ∷ []))
    ∷ (send (delete! (with1234 key_padded) ∷ []), bytes 0 0 1 (done ∷ []))
    ∷ (read_all!, ok)
    ∷ []

-- Keys that differ in one part are two keys: all are stored, and the entry of one is read and deleted alone.
abbrev pub keys_apart : List (List ℕ × Reply)
keys_apart =
    batch! (by 0 5) 0 0 10 (all done (map (λ (k : List ℕ). insert! (with1234 k)) (key_shortest ∷ near_keys)))
    ∷ (read_one key_shortest, bytes 0 0 1 (with1234 key_shortest ∷ []))
    ∷ (send (delete! (with1234 key_shortest) ∷ []), bytes 0 0 1 (done ∷ []))
    ∷ (read_all!, bytes 0 0 9 (map with1234 near_keys))
    ∷ []

-- READ needs no primary. Table 0 is every table the role may write, for role 3 none; a named table must be known, by all its
-- bytes, and the role's.
abbrev pub owners : List (List ℕ × Reply)
owners =
    (read_all!, stock)
    ∷ (read_from 1 (replicate 4 0), bytes 0 0 2 (item 2 1 1 ∷ item 2 2 1 ∷ []))
    ∷ (read_from 1 (table# 2), bytes 0 0 2 (item 2 1 1 ∷ item 2 2 1 ∷ []))
    ∷ (read_from 1 (table# 1), refused 16 7)
    ∷ (read_from 0 (table# 2), bytes 0 0 2 (item 2 1 1 ∷ item 2 2 1 ∷ []))
    ∷ (read_from 3 (replicate 4 0), ok)
    ∷ (read_from 0 (set (table# 1) 2 1), refused 15 5)
    ∷ []

-- Role 7 is the last: it has a primary and a mark, and writes and reads the tables that it owns. Role 8 is 6.
abbrev pub last_role : List (List ℕ × Reply)
last_role =
    (arbitrate! 2 (by 7 6), bytes 0 0 1 (notice 2 7 0 6 ∷ []))
    ∷ (arbitrate! 3 (by 7 4), bytes 0 0 1 (notice 3 7 6 6 ∷ []))
    ∷ (arbitrate! 4 (by 8 6), refused 6 5)
    ∷ (write! (by 7 6) 0 (insert! (item 1 7 1) ∷ insert! (item 2 7 1) ∷ []), bytes 23 2 2 (done ∷ (16 ∷ 7 ∷ []) ∷ []))
    ∷ (write! (by 8 6) 0 [], refused 6 5)
    ∷ (read_from 7 (replicate 4 0), bytes 0 0 1 (item 1 7 1 ∷ []))
    ∷ (read_from 7 (table# 1), bytes 0 0 1 (item 1 7 1 ∷ []))
    ∷ (read_from 7 (table# 2), refused 16 7)
    ∷ (read_from 8 (replicate 4 0), refused 6 5)
    ∷ (configure! (by 7 6) (row 1 7 4 exact 8 ∷ []), refused 11 7)
    ∷ (configure! (by 8 6) (row 1 7 4 exact 8 ∷ []), refused 6 5)
    ∷ (close! 2, bytes 0 0 1 (notice 3 7 5 6 ∷ []))
    ∷ []

-- an absent key gives none
abbrev pub one : List (List ℕ × Reply)
one =
    (read_one (key 0 exact (val1 2) none17), bytes 0 0 1 (item 1 2 1 ∷ []))
    ∷ (read_one (key 0 exact (val1 3) none17), ok)
    ∷ []

-- MODIFY replaces the action in its place
abbrev pub modified : List (List ℕ × Reply)
modified =
    (send (modify! (item 2 1 2) ∷ []), bytes 0 0 1 (done ∷ []))
    ∷ (read_all!, bytes 0 0 4 (item 2 1 2 ∷ item 2 2 1 ∷ item 1 1 1 ∷ item 1 2 1 ∷ []))
    ∷ []

-- A full table takes an entry again once one is deleted, also in the same batch; the entry is the table's last then.
abbrev pub full : List (List ℕ × Reply)
full =
    (send (insert! (item 2 3 1) ∷ []), bytes 23 2 1 ((22 ∷ 8 ∷ []) ∷ []))
    ∷ (send (delete! (item 2 1 1) ∷ insert! (item 2 1 1) ∷ []), bytes 0 0 2 (done ∷ done ∷ []))
    ∷ (read_all!, bytes 0 0 4 (item 2 2 1 ∷ item 2 1 1 ∷ item 1 1 1 ∷ item 1 2 1 ∷ []))
    ∷ []

abbrev pub batch : List (List ℕ × Reply)
batch = batch! (by 0 5) 23 2 8 mixed ∷ (read_all!, bytes 0 0 1 (item 1 1 2 ∷ [])) ∷ []

-- CONFIGURE replaces all rows
abbrev pub replaced : List (List ℕ × Reply)
replaced =
    (configure! (by 0 5) (row 3 0 2 exact 8 ∷ []), ok)
    ∷ (read_from 0 (table# 1), refused 15 5)
    ∷ (read_from 0 (table# 3), ok)
    ∷ (read_all!, ok)
    ∷ []

-- and empties the tables, also with the rows in force; a refused one does not
abbrev pub emptied : List (List ℕ × Reply)
emptied = (configure! (by 0 5) tables, ok) ∷ (read_all!, ok) ∷ []

abbrev pub kept : List (List ℕ × Reply)
kept = (configure! (by 0 5) sizeless, refused 14 3) ∷ (read_all!, stock) ∷ []

pub record Entries : Type 0 where
  pub padded : InTurn (configured (row 1 0 4 exact 16 ∷ [])) padded
  pub zero : InTurn (configured (row 1 0 4 exact 16 ∷ [])) zeros
  pub shortened : InTurn (configured (four16 ∷ [])) shortened
  pub keys-apart : InTurn (configured (four16 ∷ [])) keys_apart
  pub owners : Each stocked owners
  pub last-role : InTurn (configured (row 1 7 4 exact 8 ∷ row 2 6 4 exact 8 ∷ []) ++ map open! (2 ∷ 3 ∷ 4 ∷ [])) last_role
  pub one : Each stocked one
  pub modified : InTurn stocked modified
  pub full : InTurn stocked full
  pub batch : InTurn (configured tables) batch
  -- n 0
  pub no-updates : Each stocked ((send [], ok) ∷ [])
  -- a count over 255 takes both of its bytes
  pub count : reply (holding tables (replicate 256 (item 1 1 1))) (command_in read_all!)
      ≡ record { returned = 0; written = 0 ∷ 0 ∷ 1 ∷ 0 ∷ concat (replicate 256 (item 1 1 1)) }
  pub replaced : InTurn stocked replaced
  pub emptied : InTurn stocked emptied
  pub kept : InTurn stocked kept

-- ---- 14

-- a row that is allowed, and that row with other fields or actions; each is 53 bytes: table id 4, owner 1, size 2,
-- field count 1 (at 7), fields 8, action count 1 (at 16), actions 36 (id 4, parameter count 1, widths 4)
abbrev good : List ℕ
good = row_with 1 7 4 (field exact 128 ∷ []) (action 1 (128 ∷ []) ∷ [])

abbrev with_fields : List (List ℕ) → List ℕ
with_fields fields = row_with 1 7 4 fields (action 1 (128 ∷ []) ∷ [])

abbrev with_actions : List (List ℕ) → List ℕ
with_actions actions = row_with 1 7 4 (field exact 128 ∷ []) actions

-- and a row whose fields, actions and widths are all used: the second field is at 10, the fourth at 14; the actions after the
-- first are at 26, 35 and 44
abbrev full_row : List ℕ
full_row = row_with 1 7 4 (replicate 4 (field exact 8)) (map (λ (n : ℕ). action n (replicate 4 8)) (1 ∷ 2 ∷ 3 ∷ 4 ∷ []))

-- seven other rows, and CONFIGURE with a row after the first n of them; their sizes add to 252
abbrev others : List (List ℕ)
others = map (λ (n : ℕ). row n 0 36 exact 8) (2 ∷ 3 ∷ 4 ∷ 5 ∷ 6 ∷ 7 ∷ 8 ∷ [])

abbrev placed : ℕ → List ℕ → List ℕ
placed n r = configure! (by 0 5) (take n others ++ (r ∷ drop n others))

abbrev allowed_rows : List (List ℕ)
allowed_rows =
    good
    ∷ full_row
    ∷ with_fields (field lpm 1 ∷ field ternary 8 ∷ field range 8 ∷ field optional 8 ∷ [])
    ∷ with_actions (action 0 (1 ∷ 8 ∷ 8 ∷ 8 ∷ []) ∷ action 1 [] ∷ action 2 [] ∷ action 3 [] ∷ [])
    ∷ []

abbrev refused_rows : List (List ℕ)
refused_rows =
    -- table id not 02 in its top byte or repeated
    set good 0 0x01
    ∷ set good 0 0x03
    ∷ set good 3 2
    ∷ set good 3 5
    -- owner over 7
    ∷ set good 4 8
    -- size 0; sizes adding to over 256
    ∷ set good 6 0
    ∷ set good 6 5
    -- field count not 1 to 4
    ∷ with_fields []
    ∷ with_fields (replicate 5 (field exact 8))
    -- kind not 1 to 5: of the first, second and fourth field
    ∷ set good 8 0
    ∷ set good 8 6
    ∷ set full_row 10 0
    ∷ set full_row 14 6
    -- width not 1 to 128: of these fields
    ∷ set good 9 0
    ∷ set good 9 129
    ∷ set full_row 11 129
    ∷ set full_row 15 0
    -- and of parameters: the only one, the second, the first of the second action, the last of the fourth
    ∷ set good 22 0
    ∷ set good 22 129
    ∷ set full_row 23 0
    ∷ set full_row 31 129
    ∷ set full_row 52 0
    -- action count not 1 to 4
    ∷ with_actions []
    ∷ with_actions (map (λ (n : ℕ). action n []) (1 ∷ 2 ∷ 3 ∷ 4 ∷ 5 ∷ []))
    -- action id not 01 in its top byte: the first, the second and the fourth
    ∷ set good 17 0x00
    ∷ set good 17 0x02
    ∷ set full_row 26 0x02
    ∷ set full_row 44 0x00
    -- or repeated in the row: the first as the second, the second as the fourth
    ∷ with_actions (action 1 [] ∷ action 1 [] ∷ [])
    ∷ set full_row 47 2
    -- parameters over 4: in the first action, in the second
    ∷ with_actions (action 1 (replicate 5 8) ∷ [])
    ∷ set full_row 30 5
    -- unused part nonzero: second and fourth field, second and fourth width, second and fourth action
    ∷ set good 10 1
    ∷ set good 15 1
    ∷ set good 23 1
    ∷ set good 25 1
    ∷ set good 26 1
    ∷ set good 52 1
    -- and the first width of a second action without parameters
    ∷ set (with_actions (action 1 [] ∷ action 2 [] ∷ [])) 31 1
    ∷ []

-- CONFIGUREs with one of these rows after the first n others
abbrev pub allowed_at : ℕ → List (List ℕ × Reply)
allowed_at n = all ok (map (placed n) allowed_rows)

abbrev pub refused_at : ℕ → List (List ℕ × Reply)
refused_at n = all (refused 14 3) (map (placed n) refused_rows)

pub record Configurations : Type 0 where
  pub allowed : Each leading (allowed_at 1)
  -- as the first of eight rows, as the second, and as the last
  pub first-row : Each leading (refused_at 0)
  pub second-row : Each leading (refused_at 1)
  pub last_row : Each leading (refused_at 7)
  -- size 256 and size 257
  pub sizes : Each leading
      ((configure! (by 0 5) (set (row 1 0 0 exact 8) 5 1 ∷ []), ok)
      ∷ (configure! (by 0 5) (set (row 1 0 1 exact 8) 5 1 ∷ []), refused 14 3)
      ∷ [])

-- ---- 17, 18 and 19

-- the pairs of updates that are refused
abbrev pub is17 : List ℕ
is17 = 17 ∷ 3 ∷ []

abbrev pub is18 : List ℕ
is18 = 18 ∷ 11 ∷ []

abbrev pub is19 : List ℕ
is19 = 19 ∷ 3 ∷ []

-- a table of each kind, under the kind's number: one field of width 8, action 1, and action 2 with a parameter of width 4
abbrev kind_row : ℕ → List ℕ
kind_row k = row_with k 0 9 (field k 8 ∷ []) (action 1 [] ∷ action 2 (4 ∷ []) ∷ [])

abbrev pub kinds : List (List ℕ)
kinds = configured (map kind_row (exact ∷ lpm ∷ ternary ∷ range ∷ optional ∷ []))

-- INSERT into the table of a kind: a priority and the two values of the slot
abbrev put : ℕ → ℕ → List ℕ → List ℕ → List ℕ
put k priority a b = insert! (entry k (key priority k a b) 1)

-- with the slot omitted
abbrev without : ℕ → ℕ → List ℕ
without k priority = insert! (entry k (key priority omitted none17 none17) 1)

-- into the table of exact, with action 2 and these parameters
abbrev put_with : List (List ℕ) → List ℕ
put_with values = insert! (entry_with exact (key 0 exact (val1 7) none17) 2 values)

-- into the table of ternary, with a priority of 4 bytes
abbrev put_at : List ℕ → List ℕ
put_at priority = insert! (entry ternary (priority ++ drop 4 (key 0 ternary (val1 5) (val1 7))) 1)

abbrev length17 : List ℕ
length17 = 17 ∷ replicate 16 0

abbrev pub allowed_updates : List (List ℕ)
allowed_updates =
    put exact 0 (val1 0xFF) none17
    ∷ put lpm 0 (val1 0xA0) (val1 3)
    ∷ put lpm 0 (val1 0xA1) (val1 8)
    ∷ without lpm 0
    ∷ put ternary 1 (val1 5) (val1 7)
    ∷ put_at (0x7F ∷ 0xFF ∷ 0xFF ∷ 0xFF ∷ [])
    ∷ without ternary 1
    ∷ put range 1 (val1 7) (val1 7)
    ∷ put range 1 (val1 0) (val1 0xFE)
    ∷ put range 1 (val1 1) (val1 0xFF)
    ∷ without range 1
    ∷ put optional 1 (val1 0) none17
    ∷ without optional 1
    ∷ put_with (val1 0x0F ∷ [])
    ∷ []

abbrev pub refused17 : List (List ℕ)
refused17 =
    -- slot kind not allowed
    insert! (entry exact (key 0 lpm (val1 7) (val1 8)) 1)
    ∷ insert! (entry lpm (key 0 exact (val1 7) none17) 1)
    ∷ insert! (entry ternary (key 1 6 (val1 5) (val1 7)) 1)
    ∷ without exact 0
    -- value of length 0 where one is due
    ∷ put exact 0 none17 none17
    ∷ put lpm 0 none17 (val1 8)
    ∷ put lpm 0 (val1 7) none17
    ∷ put ternary 1 none17 (val1 7)
    ∷ put ternary 1 (val1 5) none17
    ∷ put range 1 none17 (val1 7)
    ∷ put range 1 (val1 0) none17
    ∷ put optional 1 none17 none17
    ∷ put_with []
    -- length over 16
    ∷ put exact 0 length17 none17
    ∷ put lpm 0 (val1 7) length17
    ∷ put_with (length17 ∷ [])
    -- nonzero padding
    ∷ put exact 0 (set (val1 7) 16 1) none17
    ∷ put ternary 1 (val1 5) (set (val1 7) 2 1)
    ∷ put_with (set (val1 7) 16 1 ∷ [])
    -- action not the row's, by its last byte and by its first
    ∷ insert! (item exact 7 3)
    ∷ insert! (set (item exact 7 1) 148 0x02)
    -- unused part nonzero: omitted slot, second value of exact and optional, unused slots, parameter values past the count
    ∷ insert! (entry lpm (key 0 omitted (val1 0) none17) 1)
    ∷ insert! (entry lpm (key 0 omitted none17 (val1 0)) 1)
    ∷ put exact 0 (val1 7) (val1 0)
    ∷ put exact 0 (val1 7) (set none17 16 1)
    ∷ put optional 1 (val1 7) (val1 0)
    ∷ insert! (entry exact (key_with 0 (slot exact (val1 7) none17 ∷ slot exact (val1 7) none17 ∷ [])) 1)
    ∷ insert! (entry exact (set (key 0 exact (val1 7) none17) 143 1) 1)
    ∷ insert! (entry_with exact (key 0 exact (val1 7) none17) 1 (val1 0 ∷ []))
    ∷ put_with (val1 7 ∷ val1 7 ∷ [])
    ∷ put_with (val1 7 ∷ none17 ∷ none17 ∷ set none17 16 1 ∷ [])
    ∷ []

abbrev pub refused18 : List (List ℕ)
refused18 =
    put exact 0 (val2 1 0) none17
    ∷ put lpm 0 (val2 1 0) (val1 8)
    ∷ put ternary 1 (val2 1 0) (val1 0xFF)
    ∷ put ternary 1 (val1 5) (val2 1 7)
    ∷ put range 1 (val2 1 0) (val2 1 1)
    ∷ put range 1 (val1 0) (val2 1 0)
    ∷ put optional 1 (val2 1 0) none17
    ∷ put_with (val1 0x10 ∷ [])
    ∷ []

abbrev pub refused19 : List (List ℕ)
refused19 =
    -- prefix length 0, 9 and 0108, which is no 18; bits below the prefix
    put lpm 0 (val1 0) (val1 0)
    ∷ put lpm 0 (val1 0) (val1 9)
    ∷ put lpm 0 (val1 0) (val2 1 8)
    ∷ put lpm 0 (val1 0xA0) (val1 2)
    -- mask 0; a value bit outside it
    ∷ put ternary 1 (val1 0) (val1 0)
    ∷ put ternary 1 (val1 8) (val1 7)
    -- first over second; the whole range
    ∷ put range 1 (val1 2) (val1 1)
    ∷ put range 1 (val1 0) (val1 0xFF)
    -- priority 0 or 2,147,483,648 where a field is ternary, range or optional, also with its slot omitted
    ∷ put ternary 0 (val1 5) (val1 7)
    ∷ put range 0 (val1 1) (val1 2)
    ∷ put optional 0 (val1 7) none17
    ∷ without ternary 0
    ∷ put_at (0x80 ∷ 0 ∷ 0 ∷ 0 ∷ [])
    -- another priority than 0 where none is
    ∷ put exact 1 (val1 7) none17
    ∷ put lpm 1 (val1 0) (val1 8)
    ∷ without lpm 1
    ∷ []

-- table 1 with an exact and a ternary field, and INSERT into it of two slots
abbrev pub exact_and_ternary : List ℕ
exact_and_ternary = row_with 1 0 4 (field exact 8 ∷ field ternary 8 ∷ []) (action 1 [] ∷ [])

abbrev put_both : ℕ → List ℕ → List ℕ → List ℕ
put_both priority a b = insert! (entry 1 (key_with priority (a ∷ b ∷ [])) 1)

abbrev pub both_slots : List (List ℕ × List ℕ)
both_slots =
    (put_both 0 (slot exact (val2 1 0) none17) (slot range (val1 1) (val1 2)), is17)
    ∷ (put_both 1 (slot ternary (val1 5) (val1 7)) (slot exact (val1 7) none17), is17)
    ∷ (put_both 0 (slot exact (val1 7) none17) (slot ternary (val2 1 0) (val1 7)), is18)
    ∷ (put_both 1 (slot exact (val1 7) none17) (slot ternary (val1 8) (val1 7)), is19)
    ∷ (put_both 1 (slot exact (val1 7) none17) (slot ternary (val1 5) (val1 7)), done)
    ∷ (put_both 1 (slot exact (val1 7) none17) (slot omitted none17 none17), done)
    ∷ []

-- table 2 with three exact fields and an optional one, and INSERT into it with a priority
abbrev pub last_optional : List ℕ
last_optional = row_with 2 0 4 (replicate 3 (field exact 8) ++ (field optional 8 ∷ [])) (action 1 [] ∷ [])

abbrev put_last : ℕ → List ℕ
put_last priority = insert! (entry 2 (key_with priority (replicate 3 (slot exact (val1 7) none17))) 1)

-- INSERT into the table of `four16`: the rule of the second, third or fourth slot is broken, and none is; and into that of
-- `last_optional`, with a priority of 0 and of 1
abbrev pub each_slot : List (List ℕ × List ℕ)
each_slot =
    (insert! (with1234 (set key_shortest 41 8)), is19)
    ∷ (insert! (with1234 (set key_shortest 76 3)), is19)
    ∷ (insert! (with1234 (set key_shortest 112 1)), is19)
    ∷ (insert! (with1234 key_shortest), done)
    ∷ (put_last 0, is19)
    ∷ (put_last 1, done)
    ∷ []

-- table 1 with exact fields and parameters of widths 1 to 4, and INSERT into it of values of one byte each
abbrev widths : List ℕ
widths = 1 ∷ 2 ∷ 3 ∷ 4 ∷ []

abbrev pub by_widths : List ℕ
by_widths = row_with 1 0 9 (map (field exact) widths) (action 1 widths ∷ [])

abbrev put_all : List ℕ → List ℕ → List ℕ
put_all xs ys =
    insert! (entry_with 1 (key_with 0 (map (λ (x : ℕ). slot exact (val1 x) none17) xs)) 1 (map val1 ys))

-- The largest values of these widths; with one of them larger; with the last exact slot omitted, or the last parameter of length 0.
abbrev largest : List ℕ
largest = 1 ∷ 3 ∷ 7 ∷ 15 ∷ []

abbrev larger : List (List ℕ)
larger = set largest 0 2 ∷ set largest 1 4 ∷ set largest 2 8 ∷ set largest 3 16 ∷ []

abbrev pub each_width_entries : List (List ℕ × List ℕ)
each_width_entries =
    all is18 (map (λ (xs : List ℕ). put_all xs largest) larger ++ map (put_all largest) larger)
    ++ all is17 (put_all (take 3 largest) largest ∷ put_all largest (take 3 largest) ∷ [])
    ++ ((put_all largest largest, done) ∷ [])

-- tables of lpm, ternary and range, of width 1 under the kind's number, and of width 128 under 10 more
abbrev pub narrow_and_wide : List (List ℕ)
narrow_and_wide = concat (map (λ (k : ℕ). row k 0 9 k 1 ∷ row (10 + k) 0 9 k 128 ∷ []) (lpm ∷ ternary ∷ range ∷ []))

-- INSERT into a table of width 128
abbrev put_wide : ℕ → ℕ → List ℕ → List ℕ → List ℕ
put_wide k priority a b = insert! (entry (10 + k) (key priority k (val a) (val b)) 1)

-- the highest of 128 bits, the others, and all but the lowest
abbrev top : List ℕ
top = 0x80 ∷ replicate 15 0

abbrev not_top : List ℕ
not_top = 0x7F ∷ replicate 15 0xFF

abbrev even : List ℕ
even = replicate 15 0xFF ++ (0xFE ∷ [])

abbrev pub ends : List (List ℕ × List ℕ)
ends =
    -- width 1: prefix length 1 only, and the whole range is 0 to 1
    (put lpm 0 (val1 1) (val1 1), done)
    ∷ (put lpm 0 (val1 0) (val1 0), is19)
    ∷ (put lpm 0 (val1 0) (val1 2), is19)
    ∷ (put ternary 1 (val1 1) (val1 1), done)
    ∷ (put ternary 1 (val1 2) (val1 1), is18)
    ∷ (put range 1 (val1 0) (val1 0), done)
    ∷ (put range 1 (val1 1) (val1 1), done)
    ∷ (put range 1 (val1 0) (val1 1), is19)
    -- width 128: prefix lengths 1 to 128, and the bits below them
    ∷ (put_wide lpm 0 top (1 ∷ []), done)
    ∷ (put_wide lpm 0 not_top (1 ∷ []), is19)
    ∷ (put_wide lpm 0 even (127 ∷ []), done)
    ∷ (put_wide lpm 0 ones128 (127 ∷ []), is19)
    ∷ (put_wide lpm 0 ones128 (128 ∷ []), done)
    ∷ (put_wide lpm 0 (0 ∷ []) (129 ∷ []), is19)
    -- a value bit outside the mask: bit 8, 64 or 127; and within it
    ∷ (put_wide ternary 1 (1 ∷ 0 ∷ []) (0xFF ∷ []), is19)
    ∷ (put_wide ternary 1 (1 ∷ 0 ∷ []) (1 ∷ 0xFF ∷ []), done)
    ∷ (put_wide ternary 1 over64 ones64, is19)
    ∷ (put_wide ternary 1 over64 over64, done)
    ∷ (put_wide ternary 1 top not_top, is19)
    ∷ (put_wide ternary 1 top top, done)
    ∷ (put_wide ternary 1 (0 ∷ []) top, done)
    -- the whole range and one less at either end; first over second
    ∷ (put_wide range 1 (0 ∷ []) ones128, is19)
    ∷ (put_wide range 1 (0 ∷ []) even, done)
    ∷ (put_wide range 1 (1 ∷ []) ones128, done)
    ∷ (put_wide range 1 ones64 over64, done)
    ∷ (put_wide range 1 over64 ones64, is19)
    ∷ []

-- a WRITE of n updates with the pair of each, of which none is refused, and of which some are
abbrev pub none_refused : ℕ → List (List ℕ × List ℕ) → List (List ℕ × Reply)
none_refused n cases = batch! (by 0 5) 0 0 n cases ∷ []

abbrev pub some_refused : ℕ → List (List ℕ × List ℕ) → List (List ℕ × Reply)
some_refused n cases = batch! (by 0 5) 23 2 n cases ∷ []

pub record Updates : Type 0 where
  pub allowed : Each kinds (none_refused 14 (all done allowed_updates))
  pub seventeen : Each kinds (some_refused 31 (all is17 refused17))
  pub eighteen : Each kinds (some_refused 8 (all is18 refused18))
  pub nineteen : Each kinds (some_refused 16 (all is19 refused19))
  -- every slot is looked at for 17, then every one for 18, then for 19
  pub both-slots : Each (configured (exact_and_ternary ∷ [])) (some_refused 6 both_slots)
  -- the last slot too; and the last field asks for a priority as the others do
  pub each-slot : Each (configured (four16 ∷ last_optional ∷ [])) (some_refused 6 each_slot)
  -- every slot and every parameter by its own width
  pub each_width : Each (configured (by_widths ∷ [])) (some_refused 11 each_width_entries)
  -- the rules of lpm, ternary and range at the widths 1 and 128
  pub narrow-and-wide : Each (configured narrow_and_wide) (some_refused 26 ends)
  -- 128 one bits fit a width of 128 and not one of 127
  pub widest : Each (configured (row 1 0 4 exact 128 ∷ row 2 0 4 exact 127 ∷ []))
      (some_refused 2
      ((insert! (entry 1 (key 0 exact (val ones128) none17) 1), done)
      ∷ (insert! (entry 2 (key 0 exact (val ones128) none17) 1), is18)
      ∷ []))
