-- What is printed depends on the whole input alone: calls after calls are one list, and an input is cut into the same frames in any
-- pieces. Assumes nothing.
use Prim.Native.Nat.{ℕ, ◌≤◌}
use mathlib.Core.Path.{◌≡◌, sym, ap, ap₂, subst, ◌∙◌}
use mathlib.Core.List.{List, ◌++◌, map-append}
use Rattle.std.specs.Prelude.{None}
use lib.ListN.{length}
use Rattle.rules.specs.Call.{fresh}
use Rattle.calls.specs.Contract.{Fresh}
use Rattle.calls.specs.Claim.{Step}
use Rattle.transcript.specs.Input.{first_frame, Begins}
use Rattle.transcript.proofs.Begins.{in_pieces}
use Rattle.memory.specs.declared.Agent.{Agent}
use Rattle.memory.specs.Layout.{Flat, memory}
use Rattle.session.specs.Session.{frames_of, lines, lines_from, Played, InAnyPieces}
use Rattle.session.proofs.CallsMade.{lines-append, session-append, made-lines}
use Rattle.session.proofs.PrintsAnswers.{prints-answers}

module _ {agent agent₁ agent₂ : Agent} {first ordinal₁ ordinal₂ : ℕ} {store answer store₁ answer₁ store₂ answer₂ : List ℕ} where
  played-pieces : (input more : List ℕ) {rest₁ rest₂ text₁ text₂ : List ℕ}
      → Played agent first input store answer agent₁ ordinal₁ rest₁ store₁ answer₁ text₁
      → Played agent₁ ordinal₁ (rest₁ ++ more) store₁ answer₁ agent₂ ordinal₂ rest₂ store₂ answer₂ text₂
      → Played agent first (input ++ more) store answer agent₂ ordinal₂ rest₂ store₂ answer₂ (text₁ ++ text₂)
  unfolding session-append
  played-pieces input more {rest₁} {rest₂} p q =
      let ws : List (Step Agent) = p.session.steps in
      let vs : List (Step Agent) = q.session.steps in
      record {
        session = session-append p.session q.session;
        frames = subst (λ (fs : List (List ℕ)). Begins (input ++ more) fs rest₂) (sym (map-append _ ws vs))
            (in_pieces.joined input more (frames_of ws) (frames_of vs) rest₁ rest₂ p.frames q.frames);
        printed = ap₂ (λ (x y : List ℕ). x ++ y) p.printed (q.printed ∙ ap (λ (n : ℕ). lines n vs) p.session.ordinals)
            ∙ sym (lines-append first ws vs);
      }

module _ {agent agent' : Agent} {first ordinal : ℕ} {input store answer store' answer' rest text : List ℕ} where
  played-whole : (device : ℕ) → Fresh Flat device agent → 56_320 ≤ length store → 57_344 ≤ length answer
      → Played agent first input store answer agent' ordinal rest store' answer' text → first_frame rest ≡ None
      → (fs : List (List ℕ)) (last : List ℕ) → Begins input fs last → first_frame last ≡ None
      → text ≡ lines_from first (fresh device) fs
  played-whole device f long wide p n fs last b m =
      p.printed
      ∙ prints-answers Flat device first (memory agent store) answer p.session.steps f long wide p.session.trace p.session.buffers
      ∙ ap (lines_from first (fresh device)) (in_pieces.only input (frames_of p.session.steps) fs rest last p.frames n b m).0

pub in-any-pieces : InAnyPieces
in-any-pieces = record {
  piece = λ m. record { session = m.session; frames = m.frames; printed = made-lines m };
  pieces = played-pieces;
  whole = played-whole;
}
