-- Frames to send and answers to expect, byte by byte: the words of the worked cases. Assumes nothing.
use Rattle.std.specs.Prelude.{◌≡◌, List, [], ◌∷◌, ◌++◌, map, ℕ, replicate, length, set, take}
use Rattle.rules.specs.Bytes.{concat}
use Rattle.rules.specs.Frame.{Command}
use Rattle.rules.specs.Key.{exact, range}
use Rattle.rules.specs.Answer.{Reply}
use Rattle.rules.specs.Call.{State, fresh, command_of, reply, next, run}

-- ---- ids

-- table ids 0200000n, action ids 0100000n
abbrev pub table# : ℕ → List ℕ
table# n = 0x02 ∷ 0 ∷ 0 ∷ n ∷ []

abbrev pub action# : ℕ → List ℕ
action# n = 0x01 ∷ 0 ∷ 0 ∷ n ∷ []

-- election ids of 16 bytes: n, below 256
abbrev pub id16 : ℕ → List ℕ
id16 n = replicate 15 0 ++ (n ∷ [])

-- 64 one bits, 1 followed by 64 zero bits, and 128 one bits
abbrev pub ones64 : List ℕ
ones64 = replicate 8 0 ++ replicate 8 0xFF

abbrev pub over64 : List ℕ
over64 = replicate 7 0 ++ (1 ∷ replicate 8 0)

abbrev pub ones128 : List ℕ
ones128 = replicate 16 0xFF

-- ---- frames

-- a head: device d, role r, flag, and id n, each below 256
abbrev pub head_by : ℕ → ℕ → ℕ → ℕ → List ℕ
head_by d r flag n = replicate 7 0 ++ (d ∷ r ∷ flag ∷ id16 n)

-- of device 1, with a set id
abbrev pub by : ℕ → ℕ → List ℕ
by r n = head_by 1 r 1 n

-- and with none
abbrev pub unset : ℕ → List ℕ
unset r = head_by 1 r 0 0

-- of device 1 and role 0, with the 16 bytes of an id
abbrev pub by_long : List ℕ → List ℕ
by_long id = take 10 (by 0 0) ++ id

abbrev pub open! : ℕ → List ℕ
open! s = 0x01 ∷ s ∷ []

abbrev pub close! : ℕ → List ℕ
close! s = 0x02 ∷ s ∷ []

abbrev pub arbitrate! : ℕ → List ℕ → List ℕ
arbitrate! s h = 0x03 ∷ s ∷ h

abbrev pub configure! : List ℕ → List (List ℕ) → List ℕ
configure! h rows = 0x04 ∷ h ++ (length rows ∷ concat rows)

abbrev pub write! : List ℕ → ℕ → List (List ℕ) → List ℕ
write! h atomicity us = 0x05 ∷ h ++ (atomicity ∷ length us ∷ concat us)

-- device d, role r, the 4 bytes of a table id, only, and the 144 bytes of a key
abbrev pub read! : ℕ → ℕ → List ℕ → ℕ → List ℕ → List ℕ
read! d r table only key = 0x06 ∷ replicate 7 0 ++ (d ∷ r ∷ table ++ (only ∷ key))

-- READ by a role of all entries of a table
abbrev pub read_from : ℕ → List ℕ → List ℕ
read_from r table = read! 1 r table 0 (replicate 144 0)

-- by role 0 of all entries of every table
abbrev pub read_all! : List ℕ
read_all! = read_from 0 (replicate 4 0)

-- by role 0 of the entry of a key in table 1
abbrev pub read_one : List ℕ → List ℕ
read_one k = read! 1 0 (table# 1) 1 k

-- ---- rows

-- n bytes: these, cut there or with zeros after them
abbrev pub filled : ℕ → List ℕ → List ℕ
filled n bs = take n (bs ++ replicate n 0)

abbrev pub field : ℕ → ℕ → List ℕ
field kind width = kind ∷ width ∷ []

-- action n, with the widths of its parameters
abbrev pub action : ℕ → List ℕ → List ℕ
action n widths = action# n ++ (length widths ∷ filled 4 widths)

-- table n of an owner, a size below 256, fields and actions
abbrev pub row_with : ℕ → ℕ → ℕ → List (List ℕ) → List (List ℕ) → List ℕ
row_with n owner size fields actions =
    table# n ++ (owner ∷ 0 ∷ size ∷ length fields ∷ filled 8 (concat fields)) ++ (length actions ∷ filled 36 (concat actions))

-- with one field, and action 1 without parameters
abbrev pub row : ℕ → ℕ → ℕ → ℕ → ℕ → List ℕ
row n owner size kind width = row_with n owner size (field kind width ∷ []) (action 1 [] ∷ [])

-- rows that break 14, by a size of 0
abbrev pub sizeless : List (List ℕ)
sizeless = row 1 0 0 exact 8 ∷ []

-- ---- entries and updates

-- up to 16 bytes as a value of 17
abbrev pub val : List ℕ → List ℕ
val bs = length bs ∷ filled 16 bs

-- a value of 1, 2, 3 or 4 bytes
abbrev pub val1 : ℕ → List ℕ
val1 a = val (a ∷ [])

abbrev pub val2 : ℕ → ℕ → List ℕ
val2 a b = val (a ∷ b ∷ [])

abbrev pub val3 : ℕ → ℕ → ℕ → List ℕ
val3 a b c = val (a ∷ b ∷ c ∷ [])

abbrev pub val4 : ℕ → ℕ → ℕ → ℕ → List ℕ
val4 a b c d = val (a ∷ b ∷ c ∷ d ∷ [])

-- no value: 17 zero bytes
abbrev pub none17 : List ℕ
none17 = replicate 17 0

-- 35 bytes: a kind and two values
abbrev pub slot : ℕ → List ℕ → List ℕ → List ℕ
slot kind a b = kind ∷ a ++ b

-- the 144 bytes of a key: a priority below 256 and its slots, the others unused
abbrev pub key_with : ℕ → List (List ℕ) → List ℕ
key_with priority slots = 0 ∷ 0 ∷ 0 ∷ priority ∷ filled 140 (concat slots)

-- with one slot
abbrev pub key : ℕ → ℕ → List ℕ → List ℕ → List ℕ
key priority kind a b = key_with priority (slot kind a b ∷ [])

-- keys of a field of kind range and width 8: two good ones; one that breaks 19, by its bounds and its priority; 18 as well; 17 as
-- well, by an unused slot
abbrev pub low : List ℕ
low = key 1 range (val1 1) (val1 2)

abbrev pub high : List ℕ
high = key 1 range (val1 3) (val1 4)

abbrev pub key19 : List ℕ
key19 = key 0 range (val1 2) (val1 1)

abbrev pub key18 : List ℕ
key18 = key 0 range (val2 1 0) (val1 1)

abbrev pub key17 : List ℕ
key17 = set key18 143 1

-- the 72 bytes of an action and the values of its parameters
abbrev pub acting : ℕ → List (List ℕ) → List ℕ
acting action values = action# action ++ filled 68 (concat values)

-- an entry of table n: its key, its action, and the values of the action's parameters
abbrev pub entry_with : ℕ → List ℕ → ℕ → List (List ℕ) → List ℕ
entry_with n k action values = table# n ++ k ++ acting action values

-- with an action without parameters
abbrev pub entry : ℕ → List ℕ → ℕ → List ℕ
entry n k action = entry_with n k action []

-- an entry of table n with the exact value v, of one byte, and action a
abbrev pub item : ℕ → ℕ → ℕ → List ℕ
item n v a = entry n (key 0 exact (val1 v) none17) a

abbrev pub insert! : List ℕ → List ℕ
insert! e = 1 ∷ e

abbrev pub modify! : List ℕ → List ℕ
modify! e = 2 ∷ e

abbrev pub delete! : List ℕ → List ℕ
delete! e = 3 ∷ e

-- ---- agents to start from

-- stream 1 is the primary of role 0 with id 5
abbrev pub leading : List (List ℕ)
leading = open! 1 ∷ arbitrate! 1 (by 0 5) ∷ []

-- and stream 2 a backup with id 3
abbrev pub two : List (List ℕ)
two = leading ++ (open! 2 ∷ arbitrate! 2 (by 0 3) ∷ [])

-- a primary with 5, and these rows
abbrev pub configured : List (List ℕ) → List (List ℕ)
configured rows = leading ++ (configure! (by 0 5) rows ∷ [])

-- ---- runs

-- a frame handed in with the shortest answer buffer and store that do
abbrev pub command_in : List ℕ → Command
command_in f = command_of 56_320 (record { frame = f; buffer = 57_344 })

-- the agent of device 1 after frames
abbrev pub after : List (List ℕ) → State
after fs = run (fresh 1) (map command_in fs)

-- the agent of a primary with 5 and these rows, its tables holding these entries
abbrev pub holding : List (List ℕ) → List (List ℕ) → State
holding rows entries = record { control = (after (configured rows)).control; tables = record { entries = entries } }

-- the last frame's answer
abbrev pub answer_to : List (List ℕ) → List ℕ → Reply
answer_to fs f = reply (after fs) (command_in f)

-- the answers to frames that come one after another
abbrev pub answers : State → List (List ℕ) → List Reply
answers s [] = []
answers s (f ∷ fs) = reply s (command_in f) ∷ answers (next s (command_in f)) fs

-- ---- answers

-- an answer: reason, code, a count below 256, and the bytes of its records
abbrev pub bytes : ℕ → ℕ → ℕ → List (List ℕ) → Reply
bytes reason code count records =
    record { returned = reason; written = reason ∷ code ∷ 0 ∷ count ∷ concat records }

-- reason 0, code 0, no record
abbrev pub ok : Reply
ok = bytes 0 0 0 []

abbrev pub refused : ℕ → ℕ → Reply
refused reason code = bytes reason code 0 []

-- the notification of a stream: role, status, and the mark as a set id, of 16 bytes or below 256
abbrev pub notice_long : ℕ → ℕ → ℕ → List ℕ → List ℕ
notice_long s role status mark = s ∷ role ∷ status ∷ 1 ∷ mark

abbrev pub notice : ℕ → ℕ → ℕ → ℕ → List ℕ
notice s role status mark = notice_long s role status (id16 mark)

-- the pair of an update that took effect
abbrev pub done : List ℕ
done = 0 ∷ 0 ∷ []

-- and of one that was rolled back or never tried, another of its batch having failed
abbrev pub rolled_back : List ℕ
rolled_back = 25 ∷ 10 ∷ []

-- ---- frames with their answers

-- Each frame, sent by itself after the frames fs, gets the answer beside it.
abbrev pub Each : List (List ℕ) → List (List ℕ × Reply) → Type 0
Each fs cases = map (λ (c : List ℕ × Reply). answer_to fs c.0) cases ≡ map (λ (c : List ℕ × Reply). c.1) cases

-- The frames, sent one after another after the frames fs, get the answers beside them.
abbrev pub InTurn : List (List ℕ) → List (List ℕ × Reply) → Type 0
InTurn fs cases = answers (after fs) (map (λ (c : List ℕ × Reply). c.0) cases) ≡ map (λ (c : List ℕ × Reply). c.1) cases

-- A WRITE of updates, of atomicity 0 or 1, and its answer, the pair of each update beside it.
abbrev pub batch_of! : ℕ → List ℕ → ℕ → ℕ → ℕ → List (List ℕ × List ℕ) → List ℕ × Reply
batch_of! atomicity h reason code count cases = (
  write! h atomicity (map (λ (c : List ℕ × List ℕ). c.0) cases),
  bytes reason code count (map (λ (c : List ℕ × List ℕ). c.1) cases),
)

abbrev pub batch! : List ℕ → ℕ → ℕ → ℕ → List (List ℕ × List ℕ) → List ℕ × Reply
batch! = batch_of! 0

abbrev pub atomic! : List ℕ → ℕ → ℕ → ℕ → List (List ℕ × List ℕ) → List ℕ × Reply
atomic! = batch_of! 1

-- one answer, or one pair, for all of them
module _ {A : Type 0} where
  abbrev pub all : A → List (List ℕ) → List (List ℕ × A)
  all a fs = map (λ (f : List ℕ). (f, a)) fs
