-- Worked cases of batches that roll back: whole frames, and the whole answers that documents 01 and 02 give them, written out
-- (document 02, request Two). Assumes nothing.
use Rattle.std.specs.Prelude.{List, [], ◌∷◌, ◌++◌, ℕ, replicate}
use Rattle.rules.specs.Answer.{Reply}
use Rattle.rules.specs.Sample.{by, open!, close!, arbitrate!, write!, read_all!, item, insert!, modify!, delete!, configured}
use Rattle.rules.specs.Sample.{bytes, ok, refused, notice, done, rolled_back, Each, InTurn, batch_of!, atomic!, all}
use Rattle.rules.specs.EntryCases.{tables, stocked, stock}

-- an update that would be 17
abbrev malformed : List ℕ
malformed = replicate 221 0xFF

-- Updates that take effect on the stocked tables, table 2 before table 1: an entry makes room for another, one is altered, one goes.
abbrev move : List (List ℕ)
move = delete! (item 2 1 1) ∷ insert! (item 2 3 1) ∷ modify! (item 1 1 2) ∷ delete! (item 1 2 1) ∷ []

abbrev moved : Reply
moved = bytes 0 0 3 (item 2 2 1 ∷ item 2 3 1 ∷ item 1 1 2 ∷ [])

-- An atomic batch of which an update fails, and then a READ: every entry is as it was, in its order.
abbrev pub rolls_back : ℕ → List (List ℕ × List ℕ) → List (List ℕ × Reply)
rolls_back count cases = atomic! (by 0 5) 23 2 count cases ∷ (read_all!, stock) ∷ []

-- ---- the frames of each case, with their answers

-- Where no update fails a batch answers and leaves the same with atomicity 1 and with 0.
abbrev pub none_fails : ℕ → List (List ℕ × Reply)
none_fails atomicity = batch_of! atomicity (by 0 5) 0 0 4 (all done move) ∷ (read_all!, moved) ∷ []

-- the first, a middle and the last update fail; what comes after is not judged, malformed or not
abbrev pub first_fails : List (List ℕ × Reply)
first_fails =
    rolls_back 3
    ((insert! (item 1 1 1), 20 ∷ 6 ∷ []) ∷ (delete! (item 1 1 1), rolled_back) ∷ (malformed, rolled_back) ∷ [])

abbrev pub middle_fails : List (List ℕ × Reply)
middle_fails =
    rolls_back 5
    ((delete! (item 2 1 1), rolled_back)
    ∷ (modify! (item 1 1 2), rolled_back)
    ∷ (insert! (item 1 3 1), 22 ∷ 8 ∷ [])
    ∷ (malformed, rolled_back)
    ∷ (delete! (item 1 9 1), rolled_back)
    ∷ [])

abbrev pub last_fails : List (List ℕ × Reply)
last_fails =
    rolls_back 4
    ((delete! (item 2 1 1), rolled_back)
    ∷ (delete! (item 1 1 1), rolled_back)
    ∷ (insert! (item 1 3 2), rolled_back)
    ∷ (malformed, 17 ∷ 3 ∷ [])
    ∷ [])

abbrev pub only_fails : List (List ℕ × Reply)
only_fails = rolls_back 1 ((modify! (item 1 9 1), 21 ∷ 5 ∷ []) ∷ [])

-- as many updates as a WRITE holds, of which the last fails
abbrev pub most : List (List ℕ × Reply)
most = rolls_back 64 (all rolled_back (replicate 63 (modify! (item 2 1 2))) ++ ((insert! (item 2 1 1), 20 ∷ 6 ∷ []) ∷ []))

-- An update is judged as though those before it had taken effect: the key is free, and taken, and free again; and the entry that
-- was deleted and inserted anew is back in its first place.
abbrev pub one_key_calls : List (List ℕ × Reply)
one_key_calls =
    rolls_back 6
    ((delete! (item 2 1 1), rolled_back)
    ∷ (insert! (item 2 1 2), rolled_back)
    ∷ (delete! (item 2 1 1), rolled_back)
    ∷ (insert! (item 2 1 1), rolled_back)
    ∷ (modify! (item 2 1 2), rolled_back)
    ∷ (insert! (item 2 1 1), 20 ∷ 6 ∷ [])
    ∷ [])

-- and the same where none fails: the entry is the table's last
abbrev pub one_key_kept_calls : List (List ℕ × Reply)
one_key_kept_calls =
    atomic! (by 0 5) 0 0 5 (all done
    (delete! (item 2 1 1) ∷ insert! (item 2 1 2) ∷ delete! (item 2 1 1) ∷ insert! (item 2 1 1) ∷ modify! (item 2 1 2) ∷ []))
    ∷ (read_all!, bytes 0 0 4 (item 2 2 1 ∷ item 2 1 2 ∷ item 1 1 1 ∷ item 1 2 1 ∷ []))
    ∷ []

-- what was rolled back is not there for the next batch, and takes no room
abbrev pub forgotten : List (List ℕ × Reply)
forgotten =
    atomic! (by 0 5) 23 2 3 ((insert! (item 1 1 1), rolled_back) ∷ (insert! (item 1 2 1), rolled_back) ∷ (insert! (item 1 3 1), 22 ∷ 8 ∷ []) ∷ [])
    ∷ (read_all!, ok)
    ∷ atomic! (by 0 5) 0 0 2 (all done (insert! (item 1 2 1) ∷ insert! (item 1 1 1) ∷ []))
    ∷ (read_all!, bytes 0 0 2 (item 1 2 1 ∷ item 1 1 1 ∷ []))
    ∷ []

-- another role's table is 16 there too
abbrev pub foreign : List (List ℕ × Reply)
foreign =
    atomic! (by 1 5) 23 2 2 ((delete! (item 2 1 1), rolled_back) ∷ (delete! (item 1 1 1), 16 ∷ 7 ∷ []) ∷ []) ∷ (read_all!, stock) ∷ []

-- The five events: a new primary takes over, lowers its id and disconnects. The deposed one's batch, sent again, is refused as a
-- whole, with atomicity 1 as with 0.
abbrev pub resent : List (List ℕ × Reply)
resent =
    (arbitrate! 2 (by 0 6), bytes 0 0 2 (notice 1 0 6 6 ∷ notice 2 0 0 6 ∷ []))
    ∷ (arbitrate! 2 (by 0 4), bytes 0 0 2 (notice 1 0 5 6 ∷ notice 2 0 5 6 ∷ []))
    ∷ (close! 2, ok)
    ∷ (write! (by 0 5) 1 move, refused 10 7)
    ∷ (write! (by 0 5) 0 move, refused 10 7)
    ∷ (read_all!, stock)
    ∷ []

pub record Rollbacks : Type 0 where
  pub none-fails : InTurn stocked (none_fails 1) × InTurn stocked (none_fails 0)
  pub first-fails : InTurn stocked first_fails
  pub middle-fails : InTurn stocked middle_fails
  pub last-fails : InTurn stocked last_fails
  pub only-fails : InTurn stocked only_fails
  pub most : InTurn stocked most
  pub one_key : InTurn stocked one_key_calls
  pub one-key-kept : InTurn stocked one_key_kept_calls
  pub forgotten : InTurn (configured tables) forgotten
  pub foreign : InTurn (stocked ++ (open! 2 ∷ arbitrate! 2 (by 1 5) ∷ [])) foreign
  pub resent : InTurn (stocked ++ (open! 2 ∷ [])) resent
  -- n 0; and atomicity 2
  pub no-updates : Each stocked
      ((write! (by 0 5) 1 [], ok)
      ∷ (write! (by 0 5) 2 [], refused 13 12)
      ∷ (write! (by 0 5) 2 (delete! (item 1 1 1) ∷ []), refused 13 12)
      ∷ [])
