-- Right because each turn goes on from where the turn before it ended, and a read has room: less than the longest frame is kept.
-- Assumes nothing.
use Prim.Native.Nat.{ℕ, ◌+◌, ◌-◌, ◌≤◌}
use native.Mathlib.Omega.{arith}
use mathlib.Core.Path.{◌≡◌, refl, sym, ap, subst, ◌∙◌}
use mathlib.Core.List.{List}
use Rattle.std.specs.Prelude.{None}
use lib.ListN.{length, take, drop, length-drop}
use lib.Seq.{drop-drop}
use Rattle.buffers.proofs.Splice.{length-window}
use Rattle.rules.proofs.Lists.{drop-take}
use Rattle.transcript.specs.Input.{first_frame, Begins, CutAt}
use Rattle.transcript.proofs.Begins.{cut-none, cut-more}
use Rattle.session.specs.Session.{frames_of, AdvanceContract, Stops}
use Rattle.session.specs.declared.Advanced.{Advanced}
use Rattle.session.specs.declared.Stop.{Stop}
use Rattle.session.specs.declared.Stop.TheVariants.{NoFrame}
use Rattle.memory.specs.declared.Agent.{Agent}
use Rattle.session.proofs.CallsMade.{session-none, session-append}
use Rattle.play.proofs.run.Goals as goal
use Rattle.play.proofs.run.Goals.{in-NoFrame+else-filled-rest, in-NoRoom}

-- after `advance` on the bytes at hand, those of the input from place `at` on, up to `filled`
module _ {agent : Agent} {first : ℕ} (input : List ℕ) (at filled : ℕ) {store answer out : List ℕ} (r : Advanced) {store' answer' out' : List ℕ}
    (before : at ≤ filled) (within : filled ≤ length input) (so-far : CutAt (take filled input) at)
    (k : AdvanceContract agent first (take (filled - at) (drop at input)) store answer out r store' answer' out') where
  -- the bytes at hand
  abbrev unread : List ℕ
  unread = take (filled - at) (drop at input)

  unread-length : length unread ≡ filled - at
  unread-length = length-window at (filled - at) input (omega (arith, before, within))

  passed : at + r.at ≤ filled
  passed = omega (arith, unread-length, k.made.within, before)

  -- all bytes since the last read
  abbrev bytes : List ℕ
  bytes = take filled input

  unread-is : unread ≡ drop at bytes
  unread-is = sym (drop-take at filled input)

  cut : CutAt bytes (at + r.at)
  cut =
      let m = k.made in
      cut-more r.at (frames_of m.session.steps) so-far
      (subst (λ (g : List ℕ). Begins g (frames_of m.session.steps) (drop r.at g)) unread-is m.frames)

  -- what waits for more holds no whole frame, and is short
  waits : r.stop ≡ NoFrame → (first_frame (drop (at + r.at) bytes) ≡ None) × (filled ≤ at + r.at + 65_536)
  waits w =
      let rest : List ℕ = drop r.at unread in
      let s = subst (λ (b : Stop). Stops b rest r.player.ordinal r.end (length out)) w k.stops in (
        ap first_frame (sym (ap (drop r.at) unread-is ∙ drop-drop r.at at bytes)) ∙ s.0,
        omega (arith, s.1, length-drop r.at unread, unread-length),
      )

pub loop-init : goal.loop-init
loop-init c = record { session = session-none _ _ _ _; before = omega arith; as_long = refl; within = omega arith; cut = cut-none _ }

pub refill-filled-requires-clause-room : goal.refill-filled-requires-clause-room
refill-filled-requires-clause-room c =
    let i = c.loop.invariant in
    let p = passed c.loop.input c.loop.at c.loop.filled c.advance-s.result i.before i.within i.cut c.advance-s.ensures in
    let w = waits c.loop.input c.loop.at c.loop.filled c.advance-s.result i.before i.within i.cut c.advance-s.ensures c.in-NoFrame.is in
    (p, i.within, omega (arith, w.1, i.as_long, c.requires))

pub refill-filled-requires-clause-cut : goal.refill-filled-requires-clause-cut
refill-filled-requires-clause-cut c =
    let i = c.loop.invariant in (
      cut c.loop.input c.loop.at c.loop.filled c.advance-s.result i.before i.within i.cut c.advance-s.ensures,
      (waits c.loop.input c.loop.at c.loop.filled c.advance-s.result i.before i.within i.cut c.advance-s.ensures c.in-NoFrame.is).0,
    )

pub loop-preserved : goal.loop-preserved
loop-preserved c =
    let i = c.loop.invariant in
    let p = passed c.loop.input c.loop.at c.loop.filled c.advance-s.result i.before i.within i.cut c.advance-s.ensures in
    let more = session-append i.session c.advance-s.ensures.made.session in
    elim c.match-s.branch [
      | in-NoFrame+else-filled-rest w ↦ record {
        session = more;
        before = omega (arith, w.at-is);
        as_long = omega (arith, ap length w.input-is, w.refill-filled.auto.input, i.as_long);
        within = omega (arith, ap length w.input-is, w.filled-is, w.refill-filled.ensures.count, w.refill-filled.auto.input);
        cut = subst (CutAt (take c.match-s.filled c.match-s.input)) (sym w.at-is) (cut-none _);
      }
      | in-NoRoom w ↦ record {
        session = more;
        before = omega (arith, w.at-is, w.filled-is, p);
        as_long = ap length w.input-is ∙ i.as_long;
        within = omega (arith, w.filled-is, ap length w.input-is, i.within);
        cut =
            let e₁ : c.match-s.input ≡ c.loop.input = w.input-is in
            let e₂ : c.match-s.at ≡ c.loop.at + c.advance-s.result.at = w.at-is in
            let e₃ : c.match-s.filled ≡ c.loop.filled = w.filled-is in
            rw (e₁, e₂, e₃)
            (cut c.loop.input c.loop.at c.loop.filled c.advance-s.result i.before i.within i.cut c.advance-s.ensures);
      }
    ]

pub shape_of-input-after-loop : goal.shape_of-input-after-loop
shape_of-input-after-loop c = c.loop.invariant.as_long

pub shape_of-input-in-NoOrdinal : goal.shape_of-input-in-NoOrdinal
shape_of-input-in-NoOrdinal c = c.loop.invariant.as_long

pub returns-in-NoOrdinal : goal.returns-in-NoOrdinal
returns-in-NoOrdinal c = session-append c.loop.invariant.session c.advance-s.ensures.made.session

pub shape_of-input-then-filled-rest : goal.shape_of-input-then-filled-rest
shape_of-input-then-filled-rest c = omega (arith, c.loop.invariant.as_long, c.refill-filled.auto.input)

pub returns-then-filled-rest : goal.returns-then-filled-rest
returns-then-filled-rest c = session-append c.loop.invariant.session c.advance-s.ensures.made.session
