-- Worked cases of the orders of refusals: whole frames, and the whole answers that document 01 gives them, written out; and all
-- worked cases together. Assumes nothing.
use Rattle.std.specs.Prelude.{◌≡◌, List, [], ◌∷◌, ◌++◌, map, ℕ, set, replicate}
use Rattle.rules.specs.Frame.{Command}
use Rattle.rules.specs.Key.{exact, range}
use Rattle.rules.specs.Answer.{Reply}
use Rattle.rules.specs.Call.{State, fresh, command_of, reply}
use Rattle.rules.specs.Full.{reply24}
use Rattle.rules.specs.Sample.{table#, by, unset, head_by, open!, close!, arbitrate!, configure!, write!, read!, read_from}
use Rattle.rules.specs.Sample.{read_all!, read_one, field, action, row_with, row, sizeless, val1, val2, key, low}
use Rattle.rules.specs.Sample.{high, key19, key18, key17, entry_with, item, insert!, modify!, delete!, leading, two}
use Rattle.rules.specs.Sample.{configured, command_in, holding, bytes, ok, refused, done, Each, InTurn, batch!, all}
use Rattle.rules.specs.StreamCases.{eight, Frames, Elections}
use Rattle.rules.specs.EntryCases.{Entries, Configurations, Updates}
use Rattle.rules.specs.RollbackCases.{Rollbacks}
use Rattle.rules.specs.DeleteCases.{Deletions}
use Rattle.rules.specs.KeyCases.{Comparisons}

-- table n of an owner, of size 1: a range of width 8, and action 1 with a parameter of width 8
abbrev ranges : ℕ → ℕ → List ℕ
ranges n owner = row_with n owner 1 (field range 8 ∷ []) (action 1 (8 ∷ []) ∷ [])

-- an entry of it with one parameter; and a parameter that breaks 18
abbrev entry1 : ℕ → List ℕ → ℕ → List ℕ → List ℕ
entry1 n k a v = entry_with n k a (v ∷ [])

abbrev wide : List ℕ
wide = val2 1 0

-- tables 1 and 2 of owners 0 and 1; role 1 has a primary with 5, and has filled table 2
abbrev pub owned : List (List ℕ)
owned =
    configured (ranges 1 0 ∷ ranges 2 1 ∷ [])
    ++ (open! 2 ∷ arbitrate! 2 (by 1 5) ∷ write! (by 1 5) 0 (insert! (entry1 2 low 1 (val1 7)) ∷ []) ∷ [])

-- role 1's INSERTs or MODIFYs, down to 19: action 9 is not the row's
abbrev to_nineteen : ℕ → List (List ℕ × List ℕ)
to_nineteen type =
    (type ∷ entry1 9 key17 9 wide, 15 ∷ 5 ∷ [])
    ∷ (type ∷ entry1 1 key17 9 wide, 16 ∷ 7 ∷ [])
    ∷ (type ∷ entry1 2 key18 9 wide, 17 ∷ 3 ∷ [])
    ∷ (type ∷ entry1 2 key17 1 wide, 17 ∷ 3 ∷ [])
    ∷ (type ∷ entry1 2 key18 1 (val1 7), 18 ∷ 11 ∷ [])
    ∷ (type ∷ entry1 2 key19 1 wide, 18 ∷ 11 ∷ [])
    ∷ (type ∷ entry1 2 key19 1 (val1 7), 19 ∷ 3 ∷ [])
    ∷ []

-- and its DELETEs, of which the key alone is looked at: 17, 18, 19 and 21 of the key beside 17 of the action and 18 of the parameter
abbrev deletes : List (List ℕ × List ℕ)
deletes =
    (delete! (entry1 9 key17 9 wide), 15 ∷ 5 ∷ [])
    ∷ (delete! (entry1 1 key17 9 wide), 16 ∷ 7 ∷ [])
    ∷ (delete! (entry1 2 key17 9 wide), 17 ∷ 3 ∷ [])
    ∷ (delete! (entry1 2 key18 9 wide), 18 ∷ 11 ∷ [])
    ∷ (delete! (entry1 2 key19 9 wide), 19 ∷ 3 ∷ [])
    ∷ (delete! (entry1 2 high 9 wide), 21 ∷ 5 ∷ [])
    ∷ []

-- and from there: the table is full, with the key `low`
abbrev from_twenty : List (List ℕ × List ℕ)
from_twenty =
    (insert! (entry1 2 low 9 wide), 17 ∷ 3 ∷ [])
    ∷ (insert! (entry1 2 low 1 wide), 18 ∷ 11 ∷ [])
    ∷ (insert! (entry1 2 low 1 (val1 7)), 20 ∷ 6 ∷ [])
    ∷ (insert! (entry1 2 high 1 (val1 7)), 22 ∷ 8 ∷ [])
    ∷ (modify! (entry1 2 high 1 (val1 7)), 21 ∷ 5 ∷ [])
    ∷ (delete! (entry1 2 high 1 (val1 7)), 21 ∷ 5 ∷ [])
    ∷ (modify! (entry1 2 low 1 (val1 8)), done)
    ∷ (delete! (entry1 2 low 9 wide), done)
    ∷ (insert! (entry1 2 high 1 (val1 7)), done)
    ∷ []

-- An update: 17 for its type, 15, 16, 17, 18, 19, 20 or 21, 22. 19 does not meet 20: a stored key passed it, so 18 of a parameter
-- meets 20. 21 does not meet 20 or 22, which are about INSERT.
abbrev pub judged : List (List ℕ × Reply)
judged =
    batch! (by 1 5) 23 2 31
    (all (17 ∷ 3 ∷ []) ((0 ∷ entry1 9 key17 9 wide) ∷ (4 ∷ entry1 9 key17 9 wide) ∷ [])
    ++ to_nineteen 1 ++ to_nineteen 2 ++ deletes ++ from_twenty)
    ∷ []

-- an update of an unknown table
abbrev stray : List (List ℕ)
stray = insert! (item 9 7 1) ∷ []

-- the answer to an INSERT into table 1, which is of a size and has one entry; beside it the store has n entries of table 2
abbrev crowded_by : (State → Command → Reply) → ℕ → ℕ → Reply
crowded_by replies size n =
    replies
    (holding (row 1 0 size exact 8 ∷ row 2 0 254 exact 8 ∷ []) (item 1 1 1 ∷ replicate n (item 2 1 1)))
    (command_in (write! (by 0 5) 0 (insert! (item 1 2 1) ∷ [])))

abbrev crowded : ℕ → ℕ → Reply
crowded = crowded_by reply

-- and as the agent with 24 answers it
abbrev crowded24 : ℕ → ℕ → Reply
crowded24 = crowded_by reply24

-- what a call gets where the store and the answer buffer are of these lengths
abbrev lent : ℕ → ℕ → List ℕ → Reply
lent room buffer f = reply (fresh 1) (command_of room (record { frame = f; buffer = buffer }))

abbrev nothing_written : Reply
nothing_written = record { returned = 2; written = [] }

-- In each list the first breaks every rule of its order, or all that can be broken at once; the next one mends what that was
-- refused for and breaks the others still, and so on down.
pub record Orders : Type 0 where
  -- 2 (answer buffer, store; also of a frame that is accepted), 1
  pub host : (lent 56_320 57_343 [] ≡ nothing_written) × (lent 56_319 57_344 [] ≡ nothing_written)
      × (lent 56_320 57_343 (open! 1) ≡ nothing_written) × (lent 56_319 57_344 (open! 1) ≡ nothing_written)
      × (lent 56_320 57_344 [] ≡ refused 1 3) × (lent 56_320 57_344 (open! 1) ≡ ok)
  -- OPEN 1 (by its length), 3; CLOSE 1, 4
  pub open-close : Each leading
      ((open! 1 ++ (0 ∷ []), refused 1 3)
      ∷ (open! 1, refused 3 9)
      ∷ (close! 2 ++ (0 ∷ []), refused 1 3)
      ∷ (close! 2, refused 4 5)
      ∷ [])
  -- ARBITRATE 1, 4, and then what a stream that is open is refused for
  pub not-open : Each eight ((arbitrate! 9 (head_by 2 8 2 8), refused 1 3) ∷ (arbitrate! 9 (head_by 2 8 1 8), refused 4 5) ∷ [])
  -- Unbound: 5, 6, 8, 9. No stream is bound to a role over 7: 6 does not meet 8 or 9.
  pub unbound : Each (eight ++ (open! 9 ∷ []))
      ((arbitrate! 9 (head_by 2 8 1 8), refused 5 5)
      ∷ (arbitrate! 9 (head_by 2 0 1 8), refused 5 5)
      ∷ (arbitrate! 9 (by 8 8), refused 6 5)
      ∷ (arbitrate! 9 (by 0 8), refused 8 3)
      ∷ (arbitrate! 9 (by 0 9), refused 9 8)
      ∷ [])
  -- bound: 7 (both, other device, other role, even over 7), 8
  pub bound : Each two
      ((arbitrate! 2 (head_by 2 8 1 5), refused 7 9)
      ∷ (arbitrate! 2 (head_by 2 0 1 5), refused 7 9)
      ∷ (arbitrate! 2 (by 8 5), refused 7 9)
      ∷ (arbitrate! 2 (by 0 5), refused 8 3)
      ∷ [])
  -- 5 and 7 look at all 8 bytes of the device
  pub device : Each leading
      ((write! (set (by 0 5) 0 1) 0 [], refused 5 5)
      ∷ (set read_all! 1 1, refused 5 5)
      ∷ (arbitrate! 1 (set (by 0 5) 0 1), refused 7 9)
      ∷ [])
  -- CONFIGURE 1, 5, 6, 11 (roles 1 to 7), 10, 14. 6 does not meet 11.
  pub configure : Each leading
      ((configure! (head_by 2 8 2 0) sizeless, refused 1 3)
      ∷ (configure! (head_by 2 8 0 0) sizeless, refused 5 5)
      ∷ (configure! (head_by 2 1 0 0) sizeless, refused 5 5)
      ∷ (configure! (unset 8) sizeless, refused 6 5)
      ∷ all (refused 11 7) (map (λ (r : ℕ). configure! (unset r) sizeless) (1 ∷ 2 ∷ 3 ∷ 4 ∷ 5 ∷ 6 ∷ 7 ∷ []))
      ++ ((configure! (unset 0) sizeless, refused 10 7)
      ∷ (configure! (by 0 4) sizeless, refused 10 7)
      ∷ (configure! (by 0 6) sizeless, refused 10 7)
      ∷ (configure! (by 0 5) sizeless, refused 14 3)
      ∷ []))
  -- WRITE 1, 5, 6, 10 (id unset, under the mark, over it), 12, 13 (atomicity 2), and then, with atomicity 1 and 0, what its update
  -- is refused for
  pub write : InTurn leading
      ((write! (head_by 2 8 2 0) 2 stray, refused 1 3)
      ∷ (write! (head_by 2 8 0 0) 2 stray, refused 5 5)
      ∷ (write! (unset 8) 2 stray, refused 6 5)
      ∷ (write! (unset 0) 2 stray, refused 10 7)
      ∷ (write! (by 0 4) 2 stray, refused 10 7)
      ∷ (write! (by 0 6) 2 stray, refused 10 7)
      ∷ (write! (by 0 5) 2 stray, refused 12 9)
      ∷ (configure! (by 0 5) (ranges 1 0 ∷ []), ok)
      ∷ (write! (by 0 5) 2 stray, refused 13 12)
      ∷ (write! (by 0 5) 1 stray, bytes 23 2 1 ((15 ∷ 5 ∷ []) ∷ []))
      ∷ (write! (by 0 5) 0 stray, bytes 23 2 1 ((15 ∷ 5 ∷ []) ∷ []))
      ∷ [])
  -- atomicity 1 in the place of 2: the same refusals, but for 13
  pub write-atomic : InTurn leading
      ((write! (head_by 2 8 2 0) 1 stray, refused 1 3)
      ∷ (write! (head_by 2 8 0 0) 1 stray, refused 5 5)
      ∷ (write! (unset 8) 1 stray, refused 6 5)
      ∷ (write! (unset 0) 1 stray, refused 10 7)
      ∷ (write! (by 0 5) 1 stray, refused 12 9)
      ∷ [])
  -- READ 1, 5, 6, 12, then for a named table 15 and 16 and, with only 1 and not with only 0, 17 to 19 on its key: 19 for its
  -- bounds and its priority, and for each of these alone
  pub read : InTurn leading
      ((read! 2 8 (table# 9) 2 key17, refused 1 3)
      ∷ (read! 2 8 (table# 9) 1 key17, refused 5 5)
      ∷ (read! 1 8 (table# 9) 1 key17, refused 6 5)
      ∷ (read! 1 1 (table# 9) 1 key17, refused 12 9)
      ∷ (configure! (by 0 5) (ranges 1 0 ∷ []), ok)
      ∷ (read! 1 1 (table# 9) 1 key17, refused 15 5)
      ∷ (read! 1 1 (table# 1) 1 key17, refused 16 7)
      ∷ (read_one key17, refused 17 3)
      ∷ (read_one key18, refused 18 11)
      ∷ (read_one key19, refused 19 3)
      ∷ (read_one (key 1 range (val1 2) (val1 1)), refused 19 3)
      ∷ (read_one (key 0 range (val1 1) (val1 2)), refused 19 3)
      ∷ (read_one (set low 0 0x80), refused 19 3)
      ∷ (read_one low, ok)
      ∷ (read_from 0 (table# 1), ok)
      ∷ [])
  pub update : Each owned judged
  -- The store holds 256 entries: 22, where the table holds its size too. Where only the store is full, which no list of calls leaves
  -- (`Full`), document 01 had 24, and the rules store the entry; with 255 in the store both do.
  pub store-full : (crowded 1 255 ≡ bytes 23 2 1 ((22 ∷ 8 ∷ []) ∷ [])) × (crowded 2 255 ≡ bytes 0 0 1 (done ∷ []))
      × (crowded24 1 255 ≡ bytes 23 2 1 ((22 ∷ 8 ∷ []) ∷ [])) × (crowded24 2 255 ≡ bytes 23 2 1 ((24 ∷ 8 ∷ []) ∷ []))
      × (crowded24 2 254 ≡ bytes 0 0 1 (done ∷ []))

-- ---- all of them

pub record Witnesses : Type 0 where
  pub frames : Frames
  pub elections : Elections
  pub entries : Entries
  pub rollbacks : Rollbacks
  pub deletions : Deletions
  pub comparisons : Comparisons
  pub orders : Orders
  pub configurations : Configurations
  pub updates : Updates
