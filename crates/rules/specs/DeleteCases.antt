-- Worked cases of DELETEs, which need only the key: whole frames, and the whole answers that documents 01 and 02 give them, written
-- out (document 02, request One). Assumes nothing.
use Rattle.std.specs.Prelude.{List, [], ◌∷◌, ◌++◌, map, ℕ, set, replicate}
use Rattle.rules.specs.Bytes.{concat}
use Rattle.rules.specs.Key.{range}
use Rattle.rules.specs.Answer.{Reply}
use Rattle.rules.specs.Sample.{table#, by, open!, arbitrate!, write!, read_all!, field, action, row_with, val1, val2}
use Rattle.rules.specs.Sample.{key, low, high, key19, key18, key17, acting, insert!, modify!, delete!, configured}
use Rattle.rules.specs.Sample.{bytes, ok, done, rolled_back, Each, InTurn, batch!, atomic!, all}

-- Tables 1 and 2 of owners 0 and 1, with a field of kind range and width 8. Table 1 has action 1, with a parameter of width 8, and
-- action 2, with none; table 2 has action 3.
abbrev rows : List (List ℕ)
rows =
    row_with 1 0 4 (field range 8 ∷ []) (action 1 (8 ∷ []) ∷ action 2 [] ∷ [])
    ∷ row_with 2 1 4 (field range 8 ∷ []) (action 3 [] ∷ [])
    ∷ []

-- ---- 72 bytes after a key

abbrev good : List ℕ
good = acting 1 (val1 7 ∷ [])

-- of an INSERT or a MODIFY 18: a value too wide
abbrev wide : List ℕ
wide = acting 1 (val2 1 0 ∷ [])

-- And 17: no action; rubbish; an action that no row has, and another row's; a value that is due and missing, one of 17 bytes, one
-- with a byte in its padding; a value past the action's count.
abbrev ill : List (List ℕ)
ill =
    replicate 72 0
    ∷ replicate 72 0xFF
    ∷ acting 9 []
    ∷ acting 3 []
    ∷ acting 1 []
    ∷ acting 1 ((17 ∷ replicate 16 1) ∷ [])
    ∷ acting 1 (set (val1 7) 16 1 ∷ [])
    ∷ acting 2 (val1 1 ∷ [])
    ∷ []

abbrev any : List (List ℕ)
any = good ∷ wide ∷ ill

-- ---- entries of table 1

abbrev of : List ℕ → List ℕ → List ℕ
of k a = table# 1 ++ k ++ a

-- the table holds the keys `low` and `high`; role 1 has a primary too
abbrev pub stocked : List (List ℕ)
stocked =
    configured rows
    ++ (write! (by 0 5) 0 (insert! (of low good) ∷ insert! (of high good) ∷ []) ∷ open! 2 ∷ arbitrate! 2 (by 1 5) ∷ [])

abbrev stock : Reply
stock = bytes 0 0 2 (of low good ∷ of high good ∷ [])

-- a key that is not stored
abbrev absent : List ℕ
absent = key 1 range (val1 5) (val1 6)

-- role 0's DELETEs with these 72 bytes, by keys that break 15, 17, 18, 19 and 21
abbrev by_bad_keys : List ℕ → List (List ℕ × List ℕ)
by_bad_keys a =
    (delete! (table# 9 ++ key17 ++ a), 15 ∷ 5 ∷ [])
    ∷ (delete! (of key17 a), 17 ∷ 3 ∷ [])
    ∷ (delete! (of key18 a), 18 ∷ 11 ∷ [])
    ∷ (delete! (of key19 a), 19 ∷ 3 ∷ [])
    ∷ (delete! (of absent a), 21 ∷ 5 ∷ [])
    ∷ []

-- ---- the frames of the cases, with their answers

-- The entry of the key is deleted, and no other, whatever the 72 bytes are: after each DELETE the key is free for an INSERT.
abbrev pub key_alone : List (List ℕ × Reply)
key_alone =
    batch! (by 0 5) 0 0 20 (all done (concat (map (λ (a : List ℕ). delete! (of low a) ∷ insert! (of low good) ∷ []) any)))
    ∷ (read_all!, bytes 0 0 2 (of high good ∷ of low good ∷ []))
    ∷ []

-- also by a key that is not in shortest form
abbrev pub padded : List (List ℕ × Reply)
padded =
    batch! (by 0 5) 0 0 1 ((delete! (of (key 1 range (val2 0 1) (val2 0 2)) (replicate 72 0)), done) ∷ [])
    ∷ (read_all!, bytes 0 0 1 (of high good ∷ []))
    ∷ []

-- in a MODIFY and an INSERT they are looked at as before
abbrev pub other_types : List (List ℕ × Reply)
other_types =
    batch! (by 0 5) 23 2 18
    (all (17 ∷ 3 ∷ []) (map (λ (a : List ℕ). modify! (of low a)) ill ++ map (λ (a : List ℕ). insert! (of absent a)) ill)
    ++ all (18 ∷ 11 ∷ []) (modify! (of low wide) ∷ insert! (of absent wide) ∷ []))
    ∷ []

-- The key is checked as before: 15, 17, 18, 19 and 21, and 16 for role 1.
abbrev pub key_checked : List (List ℕ × Reply)
key_checked =
    batch! (by 0 5) 23 2 50 (concat (map by_bad_keys any))
    ∷ batch! (by 1 5) 23 2 10 (all (16 ∷ 7 ∷ []) (map (λ (a : List ℕ). delete! (of low a)) any))
    ∷ []

-- With atomicity 1: both keys are deleted. Where a key is not there the others are back, each in its place.
abbrev pub together : List (List ℕ × Reply)
together =
    atomic! (by 0 5) 0 0 2 (all done (delete! (of high (replicate 72 0)) ∷ delete! (of low (replicate 72 0xFF)) ∷ [])) ∷ (read_all!, ok) ∷ []

abbrev pub one_gone : List (List ℕ × Reply)
one_gone =
    atomic! (by 0 5) 23 2 4
    ((delete! (of low (replicate 72 0)), rolled_back)
    ∷ (delete! (of high (replicate 72 0xFF)), rolled_back)
    ∷ (delete! (of low wide), 21 ∷ 5 ∷ [])
    ∷ (delete! (of high wide), rolled_back)
    ∷ [])
    ∷ (read_all!, stock)
    ∷ []

pub record Deletions : Type 0 where
  pub key-alone : InTurn stocked key_alone
  pub padded : InTurn stocked padded
  pub other-types : Each stocked other_types
  pub key-checked : Each stocked key_checked
  pub together : InTurn stocked together
  pub one-gone : InTurn stocked one_gone
