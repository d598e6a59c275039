-- Worked cases of frames, streams and primaries: whole frames, and the whole answers that document 01 gives them, written out.
-- Assumes nothing.
use Rattle.std.specs.Prelude.{List, [], ◌∷◌, ◌++◌, map, ℕ, ◌-◌, length, take, set, replicate}
use Rattle.rules.specs.Bytes.{concat}
use Rattle.rules.specs.Key.{exact}
use Rattle.rules.specs.Answer.{Reply}
use Rattle.rules.specs.Sample.{table#, over64, ones128, by, unset, head_by}
use Rattle.rules.specs.Sample.{by_long, open!, close!, arbitrate!, configure!, write!, read!, read_all!, row, val1, none17, key, item}
use Rattle.rules.specs.Sample.{insert!, delete!, leading, two, configured, bytes, ok, refused, notice_long, notice, done, Each, InTurn, all}

-- ---- frames, and 1

-- one frame of each command
abbrev session : List (List ℕ × Reply)
session =
    (open! 1, ok)
    ∷ (arbitrate! 1 (by_long ones128), bytes 0 0 1 (notice_long 1 0 0 ones128 ∷ []))
    ∷ (configure! (by_long ones128) (row 1 0 4 exact 8 ∷ []), ok)
    ∷ (write! (by_long ones128) 0 (insert! (item 1 7 1) ∷ []), bytes 0 0 1 (done ∷ []))
    ∷ (read_all!, bytes 0 0 1 (item 1 7 1 ∷ []))
    ∷ (close! 1, ok)
    ∷ []

abbrev shapes : List (List ℕ)
shapes = map (λ (c : List ℕ × Reply). c.0) session

-- a frame with another command byte, without its last byte, and with one more
abbrev commanded : ℕ → List ℕ → List ℕ
commanded c f = set f 0 c

abbrev shorter : List ℕ → List ℕ
shorter f = take (length f - 1) f

abbrev longer : List ℕ → List ℕ
longer f = f ++ (0 ∷ [])

-- flag over 1, flag 0 with a nonzero id (by its last byte, and by another), flag 1 with id 0
abbrev bad_heads : List (List ℕ)
bad_heads = head_by 1 0 2 5 ∷ head_by 1 0 0 5 ∷ set (by_long over64) 9 0 ∷ head_by 1 0 1 0 ∷ []

-- t 8, sizes adding to 256, and n 64
abbrev pub largest : List (List ℕ × Reply)
largest =
    (configure! (by 0 5) (map (λ (n : ℕ). row n 0 32 exact 8) (1 ∷ 2 ∷ 3 ∷ 4 ∷ 5 ∷ 6 ∷ 7 ∷ 8 ∷ [])), ok)
    ∷ (write! (by 0 5) 0 (replicate 64 (delete! (item 8 7 1))), bytes 23 2 64 (replicate 64 (21 ∷ 5 ∷ [])))
    ∷ []

abbrev Malformed : List (List ℕ) → Type 0
Malformed frames = Each [] (all (refused 1 3) frames)

pub record Frames : Type 0 where
  pub formed : InTurn [] session
  pub largest : InTurn leading largest
  -- frame empty, command unknown
  pub command : Malformed ([] ∷ map (commanded 0x00) shapes ++ map (commanded 0x07) shapes)
  -- length wrong
  pub lengths : Malformed (map shorter shapes ++ map longer shapes)
  -- stream over 31
  pub stream : Malformed (open! 32 ∷ close! 32 ∷ arbitrate! 32 (by 0 5) ∷ [])
  -- flag and id
  pub arbitrate-head : Malformed (map (arbitrate! 1) bad_heads)
  pub configure-head : Malformed (map (λ (h : List ℕ). configure! h (row 1 0 4 exact 8 ∷ [])) bad_heads)
  pub write-head : Malformed (map (λ (h : List ℕ). write! h 0 []) bad_heads)
  -- t 0 and 9, n 65
  pub rows : Malformed (configure! (by 0 5) [] ∷ configure! (by 0 5) (replicate 9 (row 1 0 4 exact 8)) ∷ [])
  pub updates : Malformed (write! (by 0 5) 0 (replicate 65 (insert! (item 1 7 1))) ∷ [])
  -- atomicity over 2
  pub atomicity : Malformed (write! (by 0 5) 3 [] ∷ [])
  -- only over 1; only 0 with a nonzero key; only 1 with table 0
  pub only : Malformed
      (read! 1 0 (table# 1) 2 (replicate 144 0)
      ∷ read! 1 0 (table# 1) 0 (set (replicate 144 0) 0 1)
      ∷ read! 1 0 (table# 1) 0 (set (replicate 144 0) 143 1)
      ∷ read! 1 0 (replicate 4 0) 1 (key 0 exact (val1 7) none17)
      ∷ [])

-- ---- streams and primaries

-- eight streams bound to role 0: 1 and 2 with no id, the others with their own number
abbrev pub eight : List (List ℕ)
eight =
    concat (map (λ (s : ℕ). open! s ∷ arbitrate! s (unset 0) ∷ []) (1 ∷ 2 ∷ []))
    ++ concat (map (λ (s : ℕ). open! s ∷ arbitrate! s (by 0 s) ∷ []) (3 ∷ 4 ∷ 5 ∷ 6 ∷ 7 ∷ 8 ∷ []))

-- the id 1 followed by 63 zero bits and 1
abbrev over64' : List ℕ
over64' = set over64 15 1

pub record Elections : Type 0 where
  -- the input of `play` in document 01
  pub play : InTurn []
      ((open! 3, ok)
      ∷ (arbitrate! 3 (by 0 5), bytes 0 0 1 (notice 3 0 0 5 ∷ []))
      ∷ (close! 3, ok)
      ∷ (close! 3, refused 4 5)
      ∷ [])
  -- 0 is the first stream and 31 the last. 3: OPEN of an open stream; 4: CLOSE of one not open.
  pub first-and-last : InTurn []
      ((open! 0, ok)
      ∷ (open! 0, refused 3 9)
      ∷ (open! 31, ok)
      ∷ (open! 31, refused 3 9)
      ∷ (arbitrate! 31 (by 0 5), bytes 0 0 1 (notice 31 0 0 5 ∷ []))
      ∷ (arbitrate! 0 (by 0 6), bytes 0 0 2 (notice 0 0 0 6 ∷ notice 31 0 6 6 ∷ []))
      ∷ (close! 0, bytes 0 0 1 (notice 31 0 5 6 ∷ []))
      ∷ (close! 0, refused 4 5)
      ∷ (arbitrate! 31 (by 0 7), bytes 0 0 1 (notice 31 0 0 7 ∷ []))
      ∷ (close! 31, ok)
      ∷ (close! 31, refused 4 5)
      ∷ [])
  -- OPEN of the primary's stream is refused, and leaves it the primary. Closed and opened again it holds no id, and closes unheard.
  pub opened-again : InTurn two
      ((open! 1, refused 3 9)
      ∷ (close! 1, bytes 0 0 1 (notice 2 0 5 5 ∷ []))
      ∷ (open! 1, ok)
      ∷ (write! (by 0 5) 0 [], refused 10 7)
      ∷ (close! 1, ok)
      ∷ [])
  -- no id and no mark: status 5, flag 0 and zeros
  pub no-mark : Each (open! 1 ∷ []) ((arbitrate! 1 (unset 0), bytes 0 0 1 ((1 ∷ 0 ∷ 5 ∷ 0 ∷ replicate 16 0) ∷ [])) ∷ [])
  -- Ids are 128-bit numbers: those that differ in one half only are two ids, and the larger one is primary.
  pub long-ids : InTurn (open! 1 ∷ open! 2 ∷ open! 3 ∷ [])
      ((arbitrate! 1 (by 0 1), bytes 0 0 1 (notice 1 0 0 1 ∷ []))
      ∷ (arbitrate! 2 (by_long over64'), bytes 0 0 2 (notice_long 1 0 6 over64' ∷ notice_long 2 0 0 over64' ∷ []))
      ∷ (arbitrate! 3 (by_long over64), bytes 0 0 1 (notice_long 3 0 6 over64' ∷ []))
      ∷ (arbitrate! 1 (by_long ones128), bytes 0 0 3 (notice_long 1 0 0 ones128 ∷ notice_long 2 0 6 ones128 ∷ notice_long 3 0 6 ones128 ∷ []))
      ∷ (arbitrate! 3 (by_long over64'), refused 8 3)
      ∷ [])
  -- A backup takes over and then raises its id: all are notified, by rising stream. It repeats its id, and is notified alone though a
  -- backup is bound. The backup lowers its id and then gives none, and is notified alone.
  pub changes : InTurn two
      ((arbitrate! 2 (by 0 6), bytes 0 0 2 (notice 1 0 6 6 ∷ notice 2 0 0 6 ∷ []))
      ∷ (arbitrate! 2 (by 0 7), bytes 0 0 2 (notice 1 0 6 7 ∷ notice 2 0 0 7 ∷ []))
      ∷ (arbitrate! 2 (by 0 7), bytes 0 0 1 (notice 2 0 0 7 ∷ []))
      ∷ (arbitrate! 1 (by 0 4), bytes 0 0 1 (notice 1 0 6 7 ∷ []))
      ∷ (arbitrate! 1 (unset 0), bytes 0 0 1 (notice 1 0 6 7 ∷ []))
      ∷ [])
  -- a closing backup notifies nobody
  pub backup-closes : Each two ((close! 2, ok) ∷ [])
  -- Roles are apart: in another role the same id is not in use, and nobody there is notified that the primary of role 0 closed.
  pub roles : InTurn (two ++ (open! 3 ∷ []))
      ((arbitrate! 3 (by 1 5), bytes 0 0 1 (notice 3 1 0 5 ∷ [])) ∷ (close! 1, bytes 0 0 1 (notice 2 0 5 5 ∷ [])) ∷ [])
  -- A refused ARBITRATE closes the stream. 5 and 6: another ARBITRATE of it is 4, and it may be opened again.
  pub unbound-refused : InTurn (open! 3 ∷ [])
      ((arbitrate! 3 (head_by 2 0 1 5), refused 5 5)
      ∷ (arbitrate! 3 (by 0 5), refused 4 5)
      ∷ (open! 3, ok)
      ∷ (arbitrate! 3 (by 8 5), refused 6 5)
      ∷ (arbitrate! 3 (by 0 5), refused 4 5)
      ∷ (open! 3, ok)
      ∷ (arbitrate! 3 (by 0 5), bytes 0 0 1 (notice 3 0 0 5 ∷ []))
      ∷ [])
  -- 7 and 8, with the notifications of a CLOSE: those left in the role hear that the primary is gone. 9 is `ninth`.
  pub primary-refused : InTurn two ((arbitrate! 1 (by 1 5), bytes 7 9 1 (notice 2 0 5 5 ∷ [])) ∷ (close! 1, refused 4 5) ∷ [])
  pub primary-clashes : InTurn two ((arbitrate! 1 (by 0 3), bytes 8 3 1 (notice 2 0 5 5 ∷ [])) ∷ (close! 1, refused 4 5) ∷ [])
  pub backup-clashes : InTurn two ((arbitrate! 2 (by 0 5), refused 8 3) ∷ (close! 2, refused 4 5) ∷ [])
  -- A refused id does not raise the mark: after a ninth stream with id 100 the primary repeats 8. Another role has room.
  pub ninth : InTurn (eight ++ (open! 9 ∷ []))
      ((arbitrate! 9 (by 0 100), refused 9 8)
      ∷ (arbitrate! 8 (by 0 8), bytes 0 0 1 (notice 8 0 0 8 ∷ []))
      ∷ (open! 9, ok)
      ∷ (arbitrate! 9 (by 1 1), bytes 0 0 1 (notice 9 1 0 1 ∷ []))
      ∷ [])
  -- nor does an id from another device, or one that names another role: neither that role's mark nor the stream's own
  pub refused-ids : InTurn (two ++ (open! 3 ∷ []))
      ((arbitrate! 3 (head_by 2 0 1 100), refused 5 5)
      ∷ (arbitrate! 2 (by 1 100), refused 7 9)
      ∷ (arbitrate! 1 (by 0 5), bytes 0 0 1 (notice 1 0 0 5 ∷ []))
      ∷ (open! 2, ok)
      ∷ (arbitrate! 2 (by 1 1), bytes 0 0 1 (notice 2 1 0 1 ∷ []))
      ∷ [])
  -- The mark does not fall when the primary lowers its id and closes: 4 makes no primary then, and 5 does.
  pub mark-stays : InTurn leading
      ((arbitrate! 1 (by 0 4), bytes 0 0 1 (notice 1 0 5 5 ∷ []))
      ∷ (close! 1, ok)
      ∷ (open! 2, ok)
      ∷ (arbitrate! 2 (by 0 4), bytes 0 0 1 (notice 2 0 5 5 ∷ []))
      ∷ (arbitrate! 2 (by 0 5), bytes 0 0 1 (notice 2 0 0 5 ∷ []))
      ∷ [])
  -- Stream 1 writes with 5. Stream 2 takes over with 6, deletes the entry, lowers its id to 4 and closes. Stream 1 sends its
  -- batch again: refused with 10, and the table stays empty.
  pub late-batch : InTurn (configured (row 1 0 4 exact 8 ∷ []))
      ((write! (by 0 5) 0 (insert! (item 1 7 1) ∷ []), bytes 0 0 1 (done ∷ []))
      ∷ (open! 2, ok)
      ∷ (arbitrate! 2 (by 0 6), bytes 0 0 2 (notice 1 0 6 6 ∷ notice 2 0 0 6 ∷ []))
      ∷ (write! (by 0 6) 0 (delete! (item 1 7 1) ∷ []), bytes 0 0 1 (done ∷ []))
      ∷ (arbitrate! 2 (by 0 4), bytes 0 0 2 (notice 1 0 5 6 ∷ notice 2 0 5 6 ∷ []))
      ∷ (close! 2, ok)
      ∷ (write! (by 0 5) 0 (insert! (item 1 7 1) ∷ []), refused 10 7)
      ∷ (read_all!, ok)
      ∷ [])
