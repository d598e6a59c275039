-- The ways of a call: what each group of commands leaves is what the call leaves. Both the call by value and the call through a
-- reference cite these laws. Assumes nothing.
use Prim.Native.Nat.{ℕ, ◌≤◌}
use native.Mathlib.Omega.{arith}
use mathlib.Core.Path.{◌≡◌, refl, sym, ap, ◌∙◌, subst}
use mathlib.Core.Bool.{true, false}
use mathlib.Core.List.{List}
use lib.Dec.{leb}
use lib.ListN.{length}
use borrow.Author.Tests.{leb-true}
use Rattle.rules.specs.Named.{reason_of}
use Rattle.rules.specs.Frame as rules
use Rattle.rules.specs.Frame.{Command, too_short, malformed, on_streams, on_pipeline, read_frame}
use Rattle.rules.specs.Streams.{event}
use Rattle.rules.specs.Answer.{answer_bytes, reply_of}
use Rattle.rules.specs.Call.{Control, State, long_enough, command_of, pipeline_command, event_answer, plain, next_control, next_tables, next}
use Rattle.rules.specs.Call.{answer, reply}
use Rattle.rules.specs.Sound.{Sound}
use Rattle.rules.proofs.Refused.{pipeline-refused}
use Rattle.rules.proofs.Tests.{and-true}
use Rattle.buffers.specs.Splice.{splice}
use Rattle.arbitration.specs.declared.Outcome.{Outcome}
use Rattle.arbitration.specs.Meaning.{streams_of, outcome_of}
use Rattle.calls.specs.Contract.{Result, Correct, Contract}
use Rattle.memory.specs.declared.Agent.{Agent}
use Rattle.memory.specs.Layout.{control_of, Flat, memory, input, outcome}
use Rattle.memory.specs.Handles.{at_tables, Handles, with_streams, with_configuration}
use Rattle.memory.proofs.Handled.{store-stays, refused}
use Rattle.pipeline.specs.declared.Configured.{Configured}
use Rattle.pipeline.specs.Pipeline.{Refuses, CarriesOut}

-- what a test of the buffers says of their lengths
pub lengths : (room space : ℕ) → long_enough room space ≡ true → (57_344 ≤ space) × (56_320 ≤ room)
lengths room space e =
    let s = and-true (leb 57_344 space) (leb 56_320 room) e in
    (leb-true 57_344 space s.0, leb-true 56_320 room s.1)

-- ---- what the commands of a group leave, over any store

module _ (a : Agent) (store d out : List ℕ) where
  -- a stream event
  pub event-handled : (x : rules.StreamEvent) (r : Outcome) → outcome_of r ≡ event a.device.id (streams_of a.streams) x
      → out ≡ splice d 0 (answer_bytes (event_answer (outcome_of r)))
      → Handles (memory a store) (on_streams x) d (outcome (with_streams a r.streams) (reason_of r.result) store out)
  unfolding next next_control next_tables answer
  event-handled x r h o t k =
      store-stays a (on_streams x) store d out (λ z. let w : ◌≡◌ {A = ℕ} 0 1 = cc in omega arith) t (event_answer (outcome_of r))
      (ap event_answer (sym h))
      (record {
        control = ap (λ o. record { device = a.device.id; streams = o.after; rows = (control_of a).rows }) h;
        tables = k.holds;
      }) refl o

  -- a pipeline command: refused, and accepted
  module _ (x : rules.PipelineCommand) (reason : ℕ) (h : Refuses (control_of a) x reason) (o : out ≡ splice d 0 (answer_bytes (plain reason))) where
    pub pipeline-refused-handled : (reason ≡ 0 → ⊥) → Handles (memory a store) (on_pipeline x) d (outcome a reason store out)
    pipeline-refused-handled n =
        refused a (on_pipeline x) store d out (λ z. let w : ◌≡◌ {A = ℕ} 0 1 = cc in omega arith) reason
        (λ t. pipeline-refused (at_tables a t) x (h t) n) o

    pub pipeline-handled : reason ≡ 0 → (r : Configured) → CarriesOut x r
        → Handles (memory a store) (on_pipeline x) d (outcome (with_configuration a r.configuration r.tables) 0 store out)
    unfolding next next_control next_tables answer
    pipeline-handled z r g t k =
        let s : State = at_tables a t in
        let q : (pipeline_command s x).reason ≡ 0 = h t ∙ z in
        store-stays a (on_pipeline x) store d out (λ z. let w : ◌≡◌ {A = ℕ} 0 1 = cc in omega arith) t (plain 0) (ap plain q)
        (record {
          control = ap (λ rows. record { device = a.device.id; streams = streams_of a.streams; rows = rows }) (g.rows s q);
          tables = g.tables s q store;
        }) refl (o ∙ ap (λ (n : ℕ). splice d 0 (answer_bytes (plain n))) z)

-- ---- what a call leaves

module _ (a : Agent) (frame store d : List ℕ) where
  abbrev asks : Command
  asks = command_of (length store) (record { frame = frame; buffer = length d })

  -- the contract asks for the rules in every state that the memory represents: its control is the record's
  handled : {c : Command} {r : Result Agent} → asks ≡ c → Handles (memory a store) c d r → Contract Flat (memory a store) (input frame d) r
  handled {c} {r} q h s k rep =
      let e : at_tables a s.tables ≡ s = ap (λ (x : Control). record { control = x; tables = s.tables }) rep.control in
      subst (λ (x : State). Correct Flat x asks (memory a store) d r) e
      (subst (λ (x : Command). Correct Flat (at_tables a s.tables) x (memory a store) d r) (sym q)
      (h s.tables (record { holds = rep.tables; sound = subst Sound (sym e) k })))

  -- 2: nothing is done
  pub short-met : long_enough (length store) (length d) ≡ false → Contract Flat (memory a store) (input frame d) (outcome a 2 store d)
  unfolding command_of next next_control next_tables reply reply_of answer
  short-met e =
      handled {c = too_short} (rw e) (λ t k. record {
        state = record { control = refl; tables = k.holds };
        returned = refl;
        filled = refl;
        room = refl;
        beyond = refl;
        untouched = λ z. refl;
      })

  module _ (long : long_enough (length store) (length d) ≡ true) where
    -- a call whose buffers are long enough is the command that its frame reads as
    pub met : {c : Command} {r : Result Agent} → c ≡ read_frame frame → Handles (memory a store) c d r
        → Contract Flat (memory a store) (input frame d) r
    unfolding command_of
    met e = handled (rw long (sym e))

    -- 1
    pub malformed-met : (out : List ℕ) → malformed ≡ read_frame frame → out ≡ splice d 0 (answer_bytes (plain 1))
        → Contract Flat (memory a store) (input frame d) (outcome a 1 store out)
    unfolding next next_control next_tables answer
    malformed-met out e o = met e (refused a malformed store d out (λ z. let w : ◌≡◌ {A = ℕ} 0 1 = cc in omega arith) 1 (λ t. (refl, refl)) o)
