-- The bench cases P1 to P9 of document 01, in one statement about the rules: whole frames, and their answers byte for byte. Assumes
-- nothing.
use Rattle.std.specs.Prelude.{◌≡◌, List, [], ◌∷◌, ◌++◌, ℕ}
use Rattle.std.proofs.Math.Option.{none}
use Rattle.rules.specs.Streams.{primary, mark_of}
use Rattle.rules.specs.Key.{exact, lpm, range}
use Rattle.rules.specs.Answer.{Reply}
use Rattle.rules.specs.Sample.{ones64, over64, by, by_long, open!, close!, arbitrate!, write!, read_all!, row, val1, val2, val3, val4, none17}
use Rattle.rules.specs.Sample.{key, entry, item, insert!, leading, two, configured, after, answer_to, bytes, notice_long, notice, done, InTurn}

-- a lone primary with 5 has sent 4
abbrev lowered : List (List ℕ)
lowered = leading ++ (arbitrate! 1 (by 0 4) ∷ [])

-- a primary with 5, and table 1 of size 4 with one field of a kind and a width
abbrev ready : ℕ → ℕ → List (List ℕ)
ready kind width = configured (row 1 0 4 kind width ∷ [])

-- the answer to an INSERT of one slot into that table
abbrev tried : ℕ → ℕ → ℕ → List ℕ → List ℕ → Reply
tried kind width priority a b =
    answer_to (ready kind width) (write! (by 0 5) 0 (insert! (entry 1 (key priority kind a b) 1) ∷ []))

abbrev passes : Reply
passes = bytes 0 0 1 (done ∷ [])

abbrev fails : ℕ → ℕ → Reply
fails reason code = bytes 23 2 1 ((reason ∷ code ∷ []) ∷ [])

pub record BenchCases : Type 0 where
  -- id 1 followed by 64 zero bits exceeds 64 one bits: sent after them it makes its stream primary, and all hear it as the mark;
  -- sent after it they are accepted, and make no primary
  pub p1 : InTurn (open! 1 ∷ open! 2 ∷ [])
      ((arbitrate! 1 (by_long ones64), bytes 0 0 1 (notice_long 1 0 0 ones64 ∷ []))
      ∷ (arbitrate! 2 (by_long over64), bytes 0 0 2 (notice_long 1 0 6 over64 ∷ notice_long 2 0 0 over64 ∷ []))
      ∷ [])
      × InTurn (open! 1 ∷ open! 2 ∷ [])
      ((arbitrate! 2 (by_long over64), bytes 0 0 1 (notice_long 2 0 0 over64 ∷ []))
      ∷ (arbitrate! 1 (by_long ones64), bytes 0 0 1 (notice_long 1 0 6 over64 ∷ []))
      ∷ [])
  -- stream 1 has id 5, stream 2 id 3; 1 closes: 2 hears status 5, id 5
  pub p2 : answer_to two (close! 1) ≡ bytes 0 0 1 (notice 2 0 5 5 ∷ [])
  -- 2 sends 4: accepted, status 5
  pub p3 : answer_to (two ++ (close! 1 ∷ [])) (arbitrate! 2 (by 0 4)) ≡ bytes 0 0 1 (notice 2 0 5 5 ∷ [])
  -- 2 sends 5: primary
  pub p4 : answer_to (two ++ (close! 1 ∷ arbitrate! 2 (by 0 4) ∷ [])) (arbitrate! 2 (by 0 5)) ≡ bytes 0 0 1 (notice 2 0 0 5 ∷ [])
  -- a lone primary with 5 sends 4: no primary, mark 5; WRITE with either id is 10
  pub p5 : (answer_to leading (arbitrate! 1 (by 0 4)) ≡ bytes 0 0 1 (notice 1 0 5 5 ∷ []))
      × (primary (after lowered).control.streams 0 ≡ none) × (mark_of (after lowered).control.streams 0 ≡ 5)
      × (answer_to lowered (write! (by 0 4) 0 []) ≡ bytes 10 7 0 []) × (answer_to lowered (write! (by 0 5) 0 []) ≡ bytes 10 7 0 [])
  -- width 9: 01FF fits, 0200 is 18, 0001FF is stored as 01FF
  pub p6 : (tried exact 9 0 (val2 0x01 0xFF) none17 ≡ passes) × (tried exact 9 0 (val2 0x02 0x00) none17 ≡ fails 18 11)
      × (answer_to (ready exact 9 ++ (write! (by 0 5) 0 (insert! (entry 1 (key 0 exact (val3 0x00 0x01 0xFF) none17) 1) ∷ []) ∷ [])) read_all!
      ≡ bytes 0 0 1 (entry 1 (key 0 exact (val2 0x01 0xFF) none17) 1 ∷ []))
  -- lpm, width 32: 0A000000 with 8 passes, 0A000001 with 8 is 19, prefix 0 (also of 00000000, which has no bit below it) or 33 is
  -- 19, 32 passes
  pub p7 : (tried lpm 32 0 (val4 0x0A 0 0 0) (val1 8) ≡ passes) × (tried lpm 32 0 (val4 0x0A 0 0 1) (val1 8) ≡ fails 19 3)
      × (tried lpm 32 0 (val4 0x0A 0 0 0) (val1 0) ≡ fails 19 3) × (tried lpm 32 0 (val4 0 0 0 0) (val1 0) ≡ fails 19 3)
      × (tried lpm 32 0 (val4 0x0A 0 0 0) (val1 33) ≡ fails 19 3) × (tried lpm 32 0 (val4 0x0A 0 0 0) (val1 32) ≡ passes)
  -- range, width 8: 00 to FE passes, 00 to FF is 19
  pub p8 : (tried range 8 1 (val1 0x00) (val1 0xFE) ≡ passes) × (tried range 8 1 (val1 0x00) (val1 0xFF) ≡ fails 19 3)
  -- one valid entry INSERTed twice in one WRITE into its empty table: pairs (0, 0), (20, 6), head 23
  pub p9 : answer_to (ready exact 9) (write! (by 0 5) 0 (insert! (item 1 7 1) ∷ insert! (item 1 7 1) ∷ []))
      ≡ bytes 23 2 2 ((0 ∷ 0 ∷ []) ∷ (20 ∷ 6 ∷ []) ∷ [])
