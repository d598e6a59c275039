-- Worked cases of a stored key compared with a key as it came (document 02, request Four), with what the likeliest wrong comparisons
-- would say otherwise. Assumes nothing.
use Rattle.std.specs.Prelude.{◌≡◌, Bool, true, false, List, [], ◌∷◌, ◌++◌, map, ℕ, replicate, set}
use Rattle.rules.specs.Key.{omitted, exact, lpm, ternary, range, optional, same_key}
use Rattle.rules.specs.Sample.{table#, val, none17, slot, key_with, key}

-- ---- the keys

-- digits with n zeros before them
abbrev after0s : ℕ → List ℕ → List ℕ
after0s n digits = val (replicate n 0 ++ digits)

-- what follows the table of a key of four kinds, n zeros before every number
abbrev rest_by : ℕ → List ℕ
rest_by n =
    key_with 1
    (slot optional (after0s n (9 ∷ [])) none17
    ∷ slot ternary (after0s n (5 ∷ [])) (after0s n (7 ∷ []))
    ∷ slot range (after0s n (1 ∷ [])) (after0s n (2 ∷ []))
    ∷ slot lpm (after0s n (0x0A ∷ 0 ∷ [])) (after0s n (8 ∷ []))
    ∷ [])

-- a key of table 1
abbrev in1 : List ℕ → List ℕ
in1 rest = table# 1 ++ rest

-- as it is stored: in shortest form
abbrev stored : List ℕ
stored = in1 (rest_by 0)

-- the key of one exact value
abbrev of1 : List ℕ → List ℕ
of1 v = in1 (key 0 exact v none17)

-- Padded keys that differ from it in one part: the table, the priority (at 3), the first slot's kind (at 4), or the last digit of a
-- value: at 7 (optional), 42 and 59 (ternary, mask), 77 and 94 (range), 112 and 129 (lpm, prefix length).
abbrev near_keys : List (List ℕ)
near_keys =
    (table# 2 ++ rest_by 1)
    ∷ map (λ (r : List ℕ). in1 r)
    (set (rest_by 1) 3 2
    ∷ set (rest_by 1) 4 exact
    ∷ set (rest_by 1) 7 8
    ∷ set (rest_by 1) 42 4
    ∷ set (rest_by 1) 59 5
    ∷ set (rest_by 1) 77 0
    ∷ set (rest_by 1) 94 3
    ∷ set (rest_by 1) 112 0x0B
    ∷ set (rest_by 1) 129 9
    ∷ [])

-- one digit, 05, with so many zeros before it
abbrev five_by : ℕ → List ℕ
five_by n = of1 (after0s n (5 ∷ []))

-- ---- what is said of them

abbrev pub said_of_all : List ℕ → List (List ℕ) → List Bool
said_of_all e ks = map (same_key e) ks

pub record Comparisons : Type 0 where
  -- Wherever numbers begin, in all slots and both values, the key is the stored one,
  pub padded : said_of_all stored (map (λ (n : ℕ). in1 (rest_by n)) (0 ∷ 1 ∷ 2 ∷ 7 ∷ 8 ∷ 9 ∷ 14 ∷ [])) ≡ replicate 7 true
  -- up to 15 zeros before one digit; and zero is one byte 00 of 1 to 16.
  pub most : said_of_all (five_by 0) (map five_by (1 ∷ 8 ∷ 15 ∷ [])) ≡ replicate 3 true
  pub zero : said_of_all (of1 (val (0 ∷ []))) (map (λ (n : ℕ). of1 (val (replicate n 0))) (1 ∷ 2 ∷ 16 ∷ [])) ≡ replicate 3 true
  -- Where one part differs, it is another key.
  pub apart : said_of_all stored near_keys ≡ replicate 10 false
  -- A value is compared whole: 0A is neither 0A00 nor 0B0A, and 0A0B0C differs from 0A0D0C.
  pub whole : said_of_all (of1 (val (0x0A ∷ 0 ∷ []))) (map (λ (v : List ℕ). of1 (val v)) ((0x0A ∷ []) ∷ (0 ∷ 0x0A ∷ []) ∷ (0x0B ∷ 0x0A ∷ []) ∷ []))
      ≡ replicate 3 false
  pub middle : same_key (of1 (val (0x0A ∷ 0x0B ∷ 0x0C ∷ []))) (of1 (val (0 ∷ 0x0A ∷ 0x0D ∷ 0x0C ∷ []))) ≡ false
  -- An unused part is not the number 0, nor an omitted slot the value 0.
  pub unused : said_of_all (of1 (val (0 ∷ []))) (of1 none17 ∷ in1 (key 0 omitted none17 none17) ∷ []) ≡ replicate 2 false
  -- What is stored is in shortest form. A stored key that is not, which none is, is no key's, its own neither.
  pub stored-padded : said_of_all (five_by 1) (map five_by (0 ∷ 1 ∷ [])) ≡ replicate 2 false
  -- Bytes after the digits of a key that did not pass 17 are no part of its number.
  pub malformed : same_key (five_by 0) (set (five_by 1) 20 1) ≡ true
