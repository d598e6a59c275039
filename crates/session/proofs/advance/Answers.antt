-- Right because each turn makes one call of the next frame of the input and adds its line. Assumes nothing.
use Rattle.std.proofs.Common.{◌≡◌, ℕ, ◌+◌, ◌-◌, ◌≤◌, ◌<◌, List, length, take, drop, get_or, Option, Some, None, sym, ap, ◌∙◌, arith, length-drop}
use lib.Seq.{get_or-drop}
use Rattle.rules.proofs.Lists.{rest_all}
use Rattle.transcript.specs.Input.{first_frame}
use Rattle.transcript.proofs.Begins.{found-length}
use Rattle.transcript.proofs.Input.{rest-short}
use Rattle.session.proofs.CallsMade.{made_none, made-next}
use Rattle.session.proofs.advance.Goals as goal

module _ (input : List ℕ) (at : ℕ) where
  -- what the reader found in the rest of the input
  found : (r : Option (List ℕ)) → r ≡ first_frame (take (length input - at) (drop at input)) → first_frame (drop at input) ≡ r
  found r e = ap first_frame (sym (rest_all at input)) ∙ sym e

  -- a frame that it found is there
  within : (f : List ℕ) → first_frame (drop at input) ≡ Some f → at ≤ length input → at + (2 + length f) ≤ length input
  within f e h = omega (arith, found-length (drop at input) f e, length-drop at input)

  -- where it found none, little is left
  short : ((i : ℕ) → get_or input i 0 < 256) → first_frame (drop at input) ≡ None → length (drop at input) ≤ 65_536
  short bytes e = rest-short (drop at input) (λ i. omega (arith, get_or-drop at input i 0, bytes (at + i))) (sym e)

pub loop-frame-init : goal.loop-frame-init
loop-frame-init c = made_none _ _ _ _ _ _

pub overflow_add-at-in-loop-frame : goal.overflow_add-at-in-loop-frame
overflow_add-at-in-loop-frame c =
    let f = found c.args.input.now c.loop-frame.at _ c.in-Some.ensures in
    record { fits = omega (arith, within c.args.input.now c.loop-frame.at _ f c.loop-frame.invariant.within) }

pub loop-frame-smaller : goal.loop-frame-smaller
loop-frame-smaller c =
    let f = found c.args.input.now c.loop-frame.at _ c.in-Some.ensures in
    omega (arith, within c.args.input.now c.loop-frame.at _ f c.loop-frame.invariant.within)

pub loop-frame-preserved : goal.loop-frame-preserved
loop-frame-preserved c =
    let f = found c.args.input.now c.loop-frame.at _ c.in-Some.ensures in
    let room : c.loop-frame.end + 112_980 ≤ length c.args.out.now = omega arith in
    made-next c.loop-frame.invariant f c.call-called.ensures (c.print-end.ensures.next, c.print-end.ensures.bytes) room

pub returns-in_default : goal.returns-in_default
returns-in_default c =
    let f = found c.args.input.now c.loop-frame.at None c.in_default.ensures in
    record { made = c.loop-frame.invariant; stops = (f, short c.args.input.now c.loop-frame.at (λ i. (c.type_inv.input i).fits) f) }
