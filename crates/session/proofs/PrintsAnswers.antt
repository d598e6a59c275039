-- What is printed is the rules' answers: each call of a list leaves in the buffer the bytes of what the rules answer, and a line is
-- made from them. Assumes nothing.
use Prim.Native.Nat.{ℕ, suc, ◌≤◌}
use native.Mathlib.Omega.{arith}
use mathlib.Core.Path.{◌≡◌, refl, ap, ap₂, subst, ◌∙◌}
use mathlib.Core.List.{List, [], ◌∷◌, ◌++◌}
use lib.ListN.{length, drop, length-append, length-drop}
use borrow.Author.Tests.{le-leb}
use Rattle.rules.specs.Frame.{Command, read_frame}
use Rattle.rules.specs.Call.{State, fresh, answer, command_of, next, reply}
use Rattle.rules.specs.Sound.{Sound}
use Rattle.rules.proofs.Formed.{frame-read, frame-formed}
use Rattle.rules.proofs.Sound.{fresh-agent, next-sound}
use Rattle.rules.proofs.Sizes.{reply-fits}
use Rattle.rules.proofs.Replies.{written-whole}
use Rattle.calls.specs.Contract.{Memory, Layout, Represents, Correct, requested}
use Rattle.calls.specs.Claim.{Step, Trace}
use Rattle.transcript.specs.Line.{line_of, record_size, line_in}
use Rattle.transcript.proofs.AnswerLines.{line-printed}
use Rattle.session.specs.Session.{frames_of, OneBuffer, lines, lines_from, PrintsAnswers}

-- ---- one call

module _ {A : Type 0} (L : Layout A) (m : Memory A) (w : Step A) (s : State) (ok : Sound s)
    (long : 56_320 ≤ length m.store) (wide : 57_344 ≤ length w.input.buffer) where
  abbrev f : List ℕ
  f = w.input.frame

  read : requested m w.input ≡ read_frame f
  unfolding command_of
  read = rw (le-leb 57_344 (length w.input.buffer) wide, le-leb 56_320 (length m.store) long)

  module _ (k : Correct L s (read_frame f) m w.input.buffer w.result) where
    abbrev written : List ℕ
    written = (reply s (read_frame f)).written

    line-is : (n : ℕ) → line_in 112_980 n (record_size f) w.result.answer ≡ line_of n (answer s (read_frame f))
    line-is n =
        ap (line_in 112_980 n (record_size f)) (k.filled ∙ ap (λ (b : List ℕ). b ++ drop (length written) w.input.buffer)
        (written-whole s (read_frame f) (frame-read f)))
        ∙ line-printed 112_980 n s f (drop (length written) w.input.buffer) ok (omega arith)

    -- the buffer is as long as it was
    as_long : length w.result.answer ≡ length w.input.buffer
    as_long =
        ap length k.filled ∙ length-append written (drop (length written) w.input.buffer)
        ∙ omega (arith, length-drop (length written) w.input.buffer, reply-fits s (read_frame f) (frame-formed f) ok)

-- ---- all calls

module _ {A : Type 0} (L : Layout A) where
  prints : (n : ℕ) (s : State) (m : Memory A) (buffer : List ℕ) (ws : List (Step A)) → Sound s → Represents L m s
      → 56_320 ≤ length m.store → 57_344 ≤ length buffer → Trace L m ws → OneBuffer buffer ws → lines n ws ≡ lines_from n s (frames_of ws)
  unfolding Trace OneBuffer lines lines_from
  prints n s m buffer [] ok r long wide t b = refl
  prints n s m buffer (w ∷ ws) ok r long wide t b =
      let c : Command = read_frame w.input.frame in
      let wide' : 57_344 ≤ length w.input.buffer = omega (arith, ap length b.0) in
      let k : Correct L s c m w.input.buffer w.result =
      subst (λ (x : Command). Correct L s x m w.input.buffer w.result) (read L m w s ok long wide') (t.0 s ok r) in
      ap₂ (λ (x y : List ℕ). x ++ y) (line-is L m w s ok long wide' k n)
      (prints (suc n) (next s c) w.result.memory w.result.answer ws (next-sound s c (frame-formed w.input.frame) ok) k.state
      (omega (arith, k.room)) (omega (arith, as_long L m w s ok long wide' k)) t.1 b.1)

  pub prints-answers : PrintsAnswers L
  prints-answers device first start buffer ws f = prints first (fresh device) start buffer ws (fresh-agent device) (f start.store)
