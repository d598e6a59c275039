-- Calls that are made one after the other are one list of calls: what is claimed of it holds of the calls so far and of each
-- that is added. Assumes nothing.
use Prim.Native.Nat.{ℕ, suc, ◌+◌, ◌≤◌}
use native.Mathlib.Nat.{add-zero}
use native.Mathlib.Omega.{arith}
use mathlib.Core.Path.{◌≡◌, refl, sym, ap, subst, ◌∙◌}
use mathlib.Core.List.{List, [], ◌∷◌, ◌++◌, map-append, append-nil, append_assoc}
use Rattle.std.specs.Prelude.{Some}
use lib.ListN.{length, take, drop, length-append, length-drop}
use lib.Seq.{take_at, drop-drop}
use Rattle.buffers.specs.Splice.{splice}
use Rattle.buffers.proofs.Splice.{splice-none, splice-next, splice_front}
use Rattle.calls.specs.Contract.{Memory, Layout, Contract}
use Rattle.calls.specs.Claim.{Step, Trace}
use Rattle.transcript.specs.Input.{first_frame, Begins}
use Rattle.transcript.specs.Line.{record_size}
use Rattle.transcript.proofs.Begins.{begins-append, found-length}
use Rattle.transcript.proofs.Fitting.{line_in-length}
use Rattle.memory.specs.declared.Agent.{Agent}
use Rattle.memory.specs.Layout as meaning
use Rattle.memory.specs.Layout.{Flat, memory, outcome}
use Rattle.session.specs.Session.{frames_of, OneBuffer, memory_after, buffer_after, lines, line_of_call, line_of_step, Session, CallsMade}

-- ---- calls after calls

module _ {A : Type 0} (L : Layout A) where
  pub trace-append : (m : Memory A) (ws vs : List (Step A)) → Trace L m ws → Trace L (memory_after m ws) vs → Trace L m (ws ++ vs)
  unfolding Trace memory_after
  trace-append m [] vs t u = u
  trace-append m (w ∷ ws) vs t u = (t.0, trace-append w.result.memory ws vs t.1 u)

module _ {A : Type 0} where
  pub memory-append : (m : Memory A) (ws vs : List (Step A)) → memory_after m (ws ++ vs) ≡ memory_after (memory_after m ws) vs
  unfolding memory_after
  memory-append m [] vs = refl
  memory-append m (w ∷ ws) vs = memory-append w.result.memory ws vs

  pub buffers-append : (b : List ℕ) (ws vs : List (Step A)) → OneBuffer b ws → OneBuffer (buffer_after b ws) vs → OneBuffer b (ws ++ vs)
  unfolding OneBuffer buffer_after
  buffers-append b [] vs t u = u
  buffers-append b (w ∷ ws) vs t u = (t.0, buffers-append w.result.answer ws vs t.1 u)

  pub buffer-append : (b : List ℕ) (ws vs : List (Step A)) → buffer_after b (ws ++ vs) ≡ buffer_after (buffer_after b ws) vs
  unfolding buffer_after
  buffer-append b [] vs = refl
  buffer-append b (w ∷ ws) vs = buffer-append w.result.answer ws vs

  pub lines-append : (n : ℕ) (ws vs : List (Step A)) → lines n (ws ++ vs) ≡ lines n ws ++ lines (n + length ws) vs
  unfolding lines
  lines-append n [] vs = rw (add-zero n)
  lines-append n (w ∷ ws) vs =
      let e : suc n + length ws ≡ n + suc (length ws) = omega arith in
      ap (λ (l : List ℕ). line_of_step n w ++ l) (lines-append (suc n) ws vs ∙ ap (λ (k : ℕ). lines (suc n) ws ++ lines k vs) e)
      ∙ sym (append_assoc (line_of_step n w) (lines (suc n) ws) (lines (n + suc (length ws)) vs))

-- ---- no call, and calls after calls

pub session-none : (agent : Agent) (first : ℕ) (store answer : List ℕ) → Session agent first store answer agent first store answer
unfolding Trace OneBuffer memory_after buffer_after
session-none agent first store answer = record {
  steps = [];
  trace = tt;
  buffers = tt;
  ordinals = sym (add-zero first);
  memory-after = refl;
  buffer-after = refl;
}

pub session-one : (agent : Agent) (ordinal : ℕ) (store answer f : List ℕ) (agent' : Agent) (reason : ℕ) (store' answer' : List ℕ)
    → Contract Flat (memory agent store) (meaning.input f answer) (outcome agent' reason store' answer')
    → Session agent ordinal store answer agent' (ordinal + 1) store' answer'
unfolding Trace OneBuffer memory_after buffer_after
session-one agent ordinal store answer f agent' reason store' answer' k = record {
  steps = record { input = meaning.input f answer; result = outcome agent' reason store' answer' } ∷ [];
  trace = (k, tt);
  buffers = (refl, tt);
  ordinals = refl;
  memory-after = refl;
  buffer-after = refl;
}

module _ {agent agent₁ agent' : Agent} {first ordinal₁ ordinal' : ℕ} {store answer store₁ answer₁ store' answer' : List ℕ} where
  unfoldable pub session-append : Session agent first store answer agent₁ ordinal₁ store₁ answer₁
      → Session agent₁ ordinal₁ store₁ answer₁ agent' ordinal' store' answer' → Session agent first store answer agent' ordinal' store' answer'
  session-append a b =
      let ws : List (Step Agent) = a.steps in
      let vs : List (Step Agent) = b.steps in
      record {
        steps = ws ++ vs;
        trace = trace-append Flat (memory agent store) ws vs a.trace
            (subst (λ (x : Memory Agent). Trace Flat x vs) (sym a.memory-after) b.trace);
        buffers = buffers-append answer ws vs a.buffers (subst (λ (x : List ℕ). OneBuffer x vs) (sym a.buffer-after) b.buffers);
        ordinals = omega (arith, a.ordinals, b.ordinals, length-append ws vs);
        memory-after = memory-append (memory agent store) ws vs
            ∙ ap (λ (x : Memory Agent). memory_after x vs) a.memory-after ∙ b.memory-after;
        buffer-after = buffer-append answer ws vs ∙ ap (λ (x : List ℕ). buffer_after x vs) a.buffer-after ∙ b.buffer-after;
      }

pub made_none : (agent : Agent) (first : ℕ) (input store answer out : List ℕ)
    → CallsMade agent first input store answer out agent first 0 0 store answer out
unfolding Begins lines session-none
made_none agent first input store answer out = record {
  session = session-none agent first store answer;
  frames = refl;
  within = omega arith;
  printed = splice-none out 0;
  ends = refl;
  space = omega arith;
}

module _ {agent : Agent} {first : ℕ} {input store answer out : List ℕ} {agent₁ : Agent} {ordinal at end : ℕ} {store₁ answer₁ out₁ : List ℕ}
    (m : CallsMade agent first input store answer out agent₁ ordinal at end store₁ answer₁ out₁) where
  -- one more call, of the next frame of the input
  pub made-next : {f : List ℕ} {agent' : Agent} {reason end' : ℕ} {store' answer' out' : List ℕ} → first_frame (drop at input) ≡ Some f →
      let line = line_of_call ordinal f answer' in
      Contract Flat (memory agent₁ store₁) (meaning.input f answer₁) (outcome agent' reason store' answer')
      → (end' ≡ end + length line) × (out' ≡ splice out₁ end line) → end + 112_980 ≤ length out
      → CallsMade agent first input store answer out agent' (ordinal + 1) (at + (2 + length f)) end' store' answer' out'
  unfolding Begins lines session-one session-append
  made-next {f} {agent'} {reason} {end'} {store'} {answer'} {out'} next k p room =
      let line : List ℕ = line_of_call ordinal f answer' in
      let one = session-one agent₁ ordinal store₁ answer₁ f agent' reason store' answer' k in
      let w : List (Step Agent) = one.steps in
      let ws : List (Step Agent) = m.session.steps in
      let there : 2 + length f ≤ length (drop at input) = found-length (drop at input) f next in
      let all : lines first (ws ++ w) ≡ lines first ws ++ line =
      lines-append first ws w
      ∙ ap (λ (i : ℕ). lines first ws ++ (line_of_call i f answer' ++ [])) (sym m.session.ordinals)
      ∙ ap (λ (l : List ℕ). lines first ws ++ l) (append-nil line) in
      record {
        session = session-append m.session one;
        frames = subst (λ (fs : List (List ℕ)). Begins input fs (drop (at + (2 + length f)) input)) (sym (map-append _ ws w))
            (begins-append input (frames_of ws) (f ∷ []) (drop at input) (drop (at + (2 + length f)) input) m.frames
            (next, drop-drop (2 + length f) at input));
        within = omega (arith, there, length-drop at input, m.within);
        printed = p.1 ∙ ap (λ (l : List ℕ). splice l end line) m.printed
            ∙ splice-next out 0 end (lines first ws) line (omega (arith, m.ends)) m.space ∙ ap (splice out 0) (sym all);
        ends = p.0 ∙ ap (λ (i : ℕ). i + length line) m.ends ∙ sym (ap length all ∙ length-append (lines first ws) line);
        space = omega (arith, p.0, room, line_in-length 112_980 ordinal (record_size f) answer');
      }

  -- what is printed is the lines and nothing else
  pub made-lines : take end out₁ ≡ lines first m.session.steps
  made-lines =
      let all : List ℕ = lines first m.session.steps in
      ap (take end) (m.printed ∙ splice_front out all) ∙ take_at all (drop (length all) out) end (sym m.ends)
