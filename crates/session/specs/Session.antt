-- What `play` does with the bytes of its input: the calls that it makes of them, and the lines that it prints (document 01,
-- "Bench cases"). Assumes nothing.
use Rattle.std.specs.Prelude.{◌≡◌, List, [], ◌∷◌, ◌++◌, map, ℕ, suc, ◌+◌, ◌≤◌, ◌<◌, length, take, drop, None}
use Rattle.buffers.specs.Splice.{splice}
use Rattle.rules.specs.Frame.{read_frame}
use Rattle.rules.specs.Call.{State, fresh, answer, next}
use Rattle.calls.specs.Contract.{Memory, Layout, Fresh}
use Rattle.calls.specs.Claim.{Step, Trace}
use Rattle.transcript.specs.Input.{first_frame, Begins}
use Rattle.transcript.specs.Line.{line_of, record_size, longest_line, line_in}
use Rattle.memory.specs.declared.Agent.{Agent}
use Rattle.memory.specs.Layout.{Flat, memory}
use Rattle.session.specs.declared.Advanced.{Advanced}
use Rattle.session.specs.declared.Stop.{Stop}
use Rattle.session.specs.declared.Stop.TheVariants.{NoFrame, NoOrdinal, NoRoom}

-- ---- calls that are made one after the other

-- the frames that calls were handed
abbrev pub frames_of : {A : Type 0} → List (Step A) → List (List ℕ)
frames_of {A} ws = map (λ (w : Step A). w.input.frame) ws

-- Each call is lent the answer buffer as the call before it left it.
unfoldable pub OneBuffer : {A : Type 0} → List ℕ → List (Step A) → Type 0
OneBuffer buffer [] = Unit {0}
OneBuffer buffer (w ∷ ws) = (w.input.buffer ≡ buffer) × OneBuffer w.result.answer ws

-- the memory after calls, and the answer buffer
unfoldable pub memory_after : {A : Type 0} → Memory A → List (Step A) → Memory A
memory_after m [] = m
memory_after m (w ∷ ws) = memory_after w.result.memory ws

unfoldable pub buffer_after : {A : Type 0} → List ℕ → List (Step A) → List ℕ
buffer_after buffer [] = buffer
buffer_after buffer (w ∷ ws) = buffer_after w.result.answer ws

-- ---- their lines

-- the line of a call, made from its frame and the bytes of its answer
abbrev pub line_of_call : ℕ → List ℕ → List ℕ → List ℕ
line_of_call ordinal frame answer = line_in longest_line ordinal (record_size frame) answer

abbrev pub line_of_step : {A : Type 0} → ℕ → Step A → List ℕ
line_of_step ordinal w = line_of_call ordinal w.input.frame w.result.answer

-- the lines of calls, the first with this ordinal, and the ordinals rising by one
unfoldable pub lines : {A : Type 0} → ℕ → List (Step A) → List ℕ
lines ordinal [] = []
lines ordinal (w ∷ ws) = line_of_step ordinal w ++ lines (suc ordinal) ws

-- ---- what document 01 says of them

-- the lines of frames, a call each, that an agent in this state is handed
unfoldable pub lines_from : ℕ → State → List (List ℕ) → List ℕ
lines_from ordinal s [] = []
lines_from ordinal s (f ∷ fs) = line_of ordinal (answer s (read_frame f)) ++ lines_from (suc ordinal) (next s (read_frame f)) fs

-- What is printed is the rules' answers: from a fresh agent, with a store and an answer buffer that are long enough, the lines made
-- from the bytes of the answers are the lines of what the rules answer to the same frames.
abbrev pub PrintsAnswers : {A : Type 0} → Layout A → Type 0
PrintsAnswers {A} L =
    (device first : ℕ) (start : Memory A) (buffer : List ℕ) (ws : List (Step A))
    → Fresh L device start.agent → 56_320 ≤ length start.store → 57_344 ≤ length buffer
    → Trace L start ws → OneBuffer buffer ws → lines first ws ≡ lines_from first (fresh device) (frames_of ws)

-- ---- what `advance` does

-- A *session*: calls made one after the other, the first with the ordinal `first`, from an agent, a store and an answer buffer; as
-- the next call finds them, they are primed.
pub record Session (agent : Agent) (first : ℕ) (store answer : List ℕ)
    (agent' : Agent) (ordinal : ℕ) (store' answer' : List ℕ) : Type 0 where
  pub steps : List (Step Agent)
  pub trace : Trace Flat (memory agent store) steps
  pub buffers : OneBuffer answer steps
  pub ordinals : ordinal ≡ first + length steps
  pub memory-after : memory_after (memory agent store) steps ≡ memory agent' store'
  pub buffer-after : buffer_after answer steps ≡ answer'

-- The calls made of the first `at` bytes of an input, and their lines, which end at `end` of out.
pub record CallsMade (agent : Agent) (first : ℕ) (input store answer out : List ℕ)
    (agent' : Agent) (ordinal at end : ℕ) (store' answer' out' : List ℕ) : Type 0 where
  pub session : Session agent first store answer agent' ordinal store' answer'
  -- each call is handed one frame of the input without its length, in order; no byte is skipped and none is used twice
  pub frames : Begins input (frames_of session.steps) (drop at input)
  pub within : at ≤ length input
  -- the lines are at the start of out, in order, and every other byte of out is as it was
  pub printed : out' ≡ splice out 0 (lines first session.steps)
  pub ends : end ≡ length (lines first session.steps)
  pub space : end ≤ length out

-- Why calls stopped: the rest of an input holds no whole frame, so that it is shorter than the longest frame with its length; the
-- ordinal is the last of 64 bits; or the longest line has no room.
abbrev pub Stops : Stop → List ℕ → ℕ → ℕ → ℕ → Type 0
Stops NoFrame rest ordinal end room = (first_frame rest ≡ None) × (length rest ≤ 65_536)
Stops NoOrdinal rest ordinal end room = ordinal ≡ 18446744073709551615
Stops NoRoom rest ordinal end room = room < end + longest_line

-- The contract of `advance`: it made the calls of its input, and stopped only where it had to.
pub record AdvanceContract (agent : Agent) (first : ℕ) (input store answer out : List ℕ)
    (r : Advanced) (store' answer' out' : List ℕ) : Type 0 where
  pub made : CallsMade agent first input store answer out r.player.agent r.player.ordinal r.at r.end store' answer' out'
  pub stops : Stops r.stop (drop r.at input) r.player.ordinal r.end (length out)

-- ---- an input that is read in pieces

-- An input was played up to a rest: the calls that were made of it, and the text that was printed.
pub record Played (agent : Agent) (first : ℕ) (input store answer : List ℕ)
    (agent' : Agent) (ordinal : ℕ) (rest store' answer' text : List ℕ) : Type 0 where
  pub session : Session agent first store answer agent' ordinal store' answer'
  pub frames : Begins input (frames_of session.steps) rest
  pub printed : text ≡ lines first session.steps

-- What is printed depends on the whole input alone, and not on how it was read.
pub record InAnyPieces : Type 0 where
  -- `advance` plays its input, and the text is the first bytes of out
  pub piece : {agent agent' : Agent} {first ordinal at end : ℕ} {input store answer out store' answer' out' : List ℕ}
      → CallsMade agent first input store answer out agent' ordinal at end store' answer' out'
      → Played agent first input store answer agent' ordinal (drop at input) store' answer' (take end out')
  -- what is left of a piece is kept before the next: the two are played as one
  pub pieces : {agent agent₁ agent₂ : Agent} {first ordinal₁ ordinal₂ : ℕ} {store answer store₁ answer₁ store₂ answer₂ : List ℕ}
      (input more : List ℕ) {rest₁ rest₂ text₁ text₂ : List ℕ}
      → Played agent first input store answer agent₁ ordinal₁ rest₁ store₁ answer₁ text₁
      → Played agent₁ ordinal₁ (rest₁ ++ more) store₁ answer₁ agent₂ ordinal₂ rest₂ store₂ answer₂ text₂
      → Played agent first (input ++ more) store answer agent₂ ordinal₂ rest₂ store₂ answer₂ (text₁ ++ text₂)
  -- where no whole frame is left, from a fresh agent and with buffers that are long enough, the text is the lines of the rules' answers
  -- to the frames into which the input is cut
  pub whole : {agent agent' : Agent} {first ordinal : ℕ} {input store answer store' answer' rest text : List ℕ} (device : ℕ)
      → Fresh Flat device agent → 56_320 ≤ length store → 57_344 ≤ length answer
      → Played agent first input store answer agent' ordinal rest store' answer' text → first_frame rest ≡ None
      → (fs : List (List ℕ)) (last : List ℕ) → Begins input fs last → first_frame last ≡ None
      → text ≡ lines_from first (fresh device) fs
