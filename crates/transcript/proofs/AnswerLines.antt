-- The line printed of an answer's bytes is the line of the rules' answer: the records have the size that the command says, so
-- the bytes are cut into the records that were written. Assumes nothing.
use Rattle.std.specs.Prelude.{if◌then◌else◌}
use Prim.Native.Nat.{ℕ, ◌+◌, ◌-◌, ◌*◌, ◌/◌, ◌%◌, ◌≤◌}
use native.Mathlib.Nat.{mul-le-mul}
use native.Mathlib.Omega.{arith}
use mathlib.Core.Path.{◌≡◌, refl, sym, ap, ◌∙◌}
use mathlib.Core.Bool.{Bool, true, false}
use mathlib.Core.List.{List, [], ◌∷◌, ◌++◌, map, append_assoc}
use lib.Dec.{eqb, lit≤}
use lib.ListN.{length, drop, length-append}
use lib.Seq.{take_at, drop_at}
use borrow.Author.Tests.{le-leb}
use Rattle.rules.specs.Bytes.{concat, byte, int, parts, bytes_of}
use Rattle.rules.specs.Frame.{Update, PipelineCommand, Command, malformed, OPEN, CLOSE, ARBITRATE, CONFIGURE, WRITE, READ}
use Rattle.rules.specs.Frame.{on_streams, on_pipeline, on_tables, head_at, query_of, update_of, configure_of, write_of, read_frame}
use Rattle.rules.specs.Frame.{formed, stream_formed, arbitrate_formed, configure_formed, write_formed, read_formed}
use Rattle.rules.specs.Reason.{code_of}
use Rattle.rules.specs.Answer.{Answer, answer_bytes}
use Rattle.rules.specs.Call.{State, answer}
use Rattle.rules.specs.Sound.{Sound}
use Rattle.rules.proofs.Formed.{EveryLength, Formed, frame-formed}
use Rattle.rules.proofs.Sizes.{concat-length, count-read, Sized, size_of, answer-sized}
use Rattle.transcript.specs.Line.{printed, line_of, record_size, fits, line_in}
use Rattle.transcript.proofs.Fitting.{tests-fit, line_in-whole}

-- ---- from the bytes of an answer to its line

-- records of one length, cut out of their bytes
parts-concat : (w : ℕ) (rs : List (List ℕ)) (rest : List ℕ) → EveryLength w rs → parts (length rs) w (concat rs ++ rest) ≡ rs
unfolding parts
parts-concat w [] rest h = refl
parts-concat w (r ∷ rs) rest h =
    let e : (r ++ concat rs) ++ rest ≡ r ++ (concat rs ++ rest) = append_assoc r (concat rs) rest in
    rw (e, take_at r (concat rs ++ rest) w h.0, drop_at r (concat rs ++ rest) w h.0)
    (ap (λ (l : List (List ℕ)). r ∷ l) (parts-concat w rs rest h.1))

-- the bytes, head first
module _ (a : Answer) (rest : List ℕ) where
  abbrev count : ℕ
  count = length a.records

  head : answer_bytes a ++ rest ≡ a.reason ∷ code_of a.reason ∷ count / 256 % 256 ∷ count % 256 ∷ (concat a.records ++ rest)
  unfolding answer_bytes bytes_of
  head = refl

pub line-of-answer : (room ordinal size : ℕ) (a : Answer) (rest : List ℕ)
    → size ≤ 220 → EveryLength size a.records → length a.records ≤ 256 → 112_980 ≤ room
    → line_in room ordinal size (answer_bytes a ++ rest) ≡ line_of ordinal a
line-of-answer room ordinal size a rest narrow h few space =
    let bytes : List ℕ = answer_bytes a ++ rest in
    let n : ℕ = length a.records in
    let e : int 2 2 bytes ≡ n = count-read a rest few in
    let l : length bytes ≡ 4 + (length (concat a.records) + length rest) =
    omega (arith, ap length (head a rest), length-append (concat a.records) rest) in
    let k : length (concat a.records) ≡ size * n = concat-length size a.records h in
    let m : (1 + 2 * size) * n ≤ 112_896 = mul-le-mul {n₁ = 1 + 2 * size} {m₁ = n} {n₂ = 441} {m₂ = 256} (omega arith) few in
    let t : fits room size bytes ≡ true =
    sym (tests-fit room size bytes n (sym e) (omega arith))
    ∙ rw (le-leb size 220 narrow, le-leb (size * n) (length bytes - 4) (omega arith)) (le-leb (84 + (1 + 2 * size) * n) room (omega arith)) in
    line_in-whole room ordinal size bytes t
    ∙ ap (λ (i : ℕ). printed ordinal (byte 0 bytes) (byte 1 bytes) (parts i size (drop 4 bytes))) e
    ∙ ap (λ (b : List ℕ). printed ordinal (byte 0 b) (byte 1 b) (parts n size (drop 4 b))) (head a rest)
    ∙ ap (printed ordinal a.reason (code_of a.reason)) (parts-concat size a.records rest h)

-- ---- the records of an answer, by the frame's command byte

module _ (s : State) (ok : Sound s) where
  -- a command of the right form is answered with records of n bytes
  abbrev SizedRecords : ℕ → Command → Type 0
  SizedRecords n c = Formed c → Sized n (answer s c).records

  own-size : (c : Command) → SizedRecords (size_of c) c
  own-size c f = answer-sized s c f ok

  -- no records are of any size
  malformed-sized : (n : ℕ) → SizedRecords n malformed
  unfolding answer
  malformed-sized n f = (tt, omega arith)

  pipeline-sized : (n : ℕ) (x : PipelineCommand) → SizedRecords n (on_pipeline x)
  unfolding answer
  pipeline-sized n x f = (tt, omega arith)

  -- a command with the test of its form
  formed-sized : (n : ℕ) (b : Bool) (c : Command) → SizedRecords n c → SizedRecords n (formed b c)
  formed-sized n true c h = h
  formed-sized n false c h = malformed-sized n

  -- a command byte with its own size, and CONFIGURE, which has no records of any size
  either : (b : Bool) (n m : ℕ) (c d : Command) → SizedRecords n c → SizedRecords m d → SizedRecords (if b then n else m) (if b then c else d)
  either true n m c d h k = h
  either false n m c d h k = k

  unless : (b : Bool) (n : ℕ) (c d : Command) → SizedRecords n c → SizedRecords n d → SizedRecords n (if b then c else d)
  unless true n c d h k = h
  unless false n c d h k = k

  by-command : (f : List ℕ) → SizedRecords (record_size f) (read_frame f)
  unfolding record_size read_frame configure_of write_of
  by-command [] = malformed-sized 0
  by-command (c ∷ operands) =
      let f : List ℕ = c ∷ operands in
      let rows : List (List ℕ) = parts (byte 27 f) 53 (drop 28 f) in
      let updates : List Update = map update_of (parts (byte 28 f) 221 (drop 29 f)) in
      either (eqb c 0x01) 20 _ _ _ (formed-sized 20 (stream_formed f) _ (own-size (on_streams (OPEN (byte 1 f)))))
      (either (eqb c 0x02) 20 _ _ _ (formed-sized 20 (stream_formed f) _ (own-size (on_streams (CLOSE (byte 1 f)))))
      (either (eqb c 0x03) 20 _ _ _ (formed-sized 20 (arbitrate_formed f) _ (own-size (on_streams (ARBITRATE (byte 1 f) (head_at 2 f)))))
      (unless (eqb c 0x04) _ _ _ (formed-sized _ (configure_formed (byte 27 f) f) _ (pipeline-sized _ (CONFIGURE (head_at 1 f) rows)))
      (either (eqb c 0x05) 2 _ _ _ (formed-sized 2 (write_formed (byte 28 f) f) _ (own-size (on_tables (WRITE (head_at 1 f) (byte 27 f) updates))))
      (either (eqb c 0x06) 220 0 _ _ (formed-sized 220 (read_formed f) _ (own-size (on_tables (READ (query_of f))))) (malformed-sized 0))))))

  sized : (f : List ℕ) → Sized (record_size f) (answer s (read_frame f)).records
  sized f = by-command f (frame-formed f)

pub records-sized : (s : State) (f : List ℕ) → Sound s → EveryLength (record_size f) (answer s (read_frame f)).records
records-sized s f ok = (sized s ok f).0

size_small : (f : List ℕ) → record_size f ≤ 220
unfolding record_size
size_small [] = omega arith
size_small (c ∷ operands) =
    at_most (eqb c 0x01) 20 _ (lit≤ tt) (at_most (eqb c 0x02) 20 _ (lit≤ tt) (at_most (eqb c 0x03) 20 _ (lit≤ tt)
    (at_most (eqb c 0x05) 2 _ (lit≤ tt) (at_most (eqb c 0x06) 220 0 (lit≤ tt) (lit≤ tt)))))
  where
    at_most : (b : Bool) (n m : ℕ) → n ≤ 220 → m ≤ 220 → (if b then n else m) ≤ 220
    at_most true n m h k = h
    at_most false n m h k = k

-- what `play` prints of a call of a sound agent, in a buffer with room for the longest line
pub line-printed : (room ordinal : ℕ) (s : State) (f rest : List ℕ) → Sound s → 112_980 ≤ room
    → line_in room ordinal (record_size f) (answer_bytes (answer s (read_frame f)) ++ rest) ≡ line_of ordinal (answer s (read_frame f))
line-printed room ordinal s f rest ok space =
    line-of-answer room ordinal (record_size f) (answer s (read_frame f)) rest (size_small f) (records-sized s f ok) (sized s ok f).1 space
