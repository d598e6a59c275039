-- Texts that are added to a line one after the other are one text. Assumes nothing.
use Rattle.std.proofs.Common.{◌≡◌, List, [], ◌++◌, ℕ, ◌≤◌, length, refl, sym, ap, ◌∙◌, arith, length-append}
use native.Mathlib.Nat.{add-zero}
use Rattle.buffers.specs.Splice.{splice}
use Rattle.buffers.proofs.Splice.{splice-none, splice-next, length-splice}
use Rattle.transcript.specs.declared.Line.{Line}
use Rattle.transcript.specs.Written.{HasRoom, Adds}

pub adds-none : (a : Line) → a.at ≤ length a.out.now → Adds a [] a
adds-none a h = record { same = refl; place = sym (add-zero a.at); within = h; bytes = splice-none a.out.now a.at }

module _ {a b : Line} {x : List ℕ} (p : Adds a x b) where
  pub adds-length : length b.out.now ≡ length a.out.now
  adds-length = ap length p.bytes ∙ length-splice a.out.now a.at x (omega (arith, p.place, p.within))

  pub adds-then : {c : Line} {y : List ℕ} → Adds b y c → Adds a (x ++ y) c
  adds-then {c} {y} q = record {
    same = q.same ∙ p.same;
    place = omega (arith, p.place, q.place, length-append x y);
    within = omega (arith, q.within, adds-length);
    bytes = q.bytes ∙ ap (λ (l : List ℕ). splice l b.at y) p.bytes ∙ splice-next a.out.now a.at b.at x y p.place p.within;
  }

  -- what comes after a text has the room that both have
  pub room-after : (y : List ℕ) → HasRoom a (x ++ y) → HasRoom b y
  room-after y h = omega (arith, h, p.place, adds-length, length-append x y)

pub room-front : (a : Line) (x y : List ℕ) → HasRoom a (x ++ y) → HasRoom a x
room-front a x y h = omega (arith, h, length-append x y)
