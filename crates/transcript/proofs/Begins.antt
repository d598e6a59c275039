-- An input is cut into the same frames whether it comes whole or in pieces: a frame that is whole stays the first whatever comes
-- after it. Assumes nothing.
use Rattle.std.specs.Prelude.{if◌then◌else◌}
use Prim.Native.Nat.{ℕ, ◌+◌, ◌≤◌}
use native.Mathlib.Omega.{arith}
use mathlib.Core.Path.{◌≡◌, refl, sym, ap, ap₂, subst, ◌∙◌}
use mathlib.Core.Bool.{Bool, true, false, ◌&&◌}
use mathlib.Core.List.{List, [], ◌∷◌, ◌++◌}
use Rattle.std.specs.Prelude.{Some, None}
use lib.Dec.{leb}
use lib.ListN.{length, take, drop, length-append, length-drop}
use lib.Seq.{take-append-le, drop-append-le, length-take-le, drop-drop}
use borrow.Author.Tests.{leb-true}
use Rattle.rules.specs.Bytes.{int, part, number}
use Rattle.rules.proofs.Tests.{and-true}
use Rattle.transcript.specs.Input.{first_frame, Begins, CutAt, InPieces}
use Rattle.transcript.proofs.Input.{whole}

-- ---- the first frame

-- where a frame was found
pub record Found (input f : List ℕ) : Type 0 where
  pub head : 2 ≤ length input
  pub within : 2 + int 0 2 input ≤ length input
  pub bytes : f ≡ part 2 (int 0 2 input) input

pub found : (input f : List ℕ) → first_frame input ≡ Some f → Found input f
unfolding first_frame
found input f e = go (leb 2 (length input) && leb (2 + int 0 2 input) (length input)) refl e
  where
    go : (t : Bool) → (leb 2 (length input) && leb (2 + int 0 2 input) (length input)) ≡ t
        → (if t then Some (part 2 (int 0 2 input) input) else None) ≡ Some f → Found input f
    go true q e =
        let a = and-true (leb 2 (length input)) (leb (2 + int 0 2 input) (length input)) q in
        record { head = leb-true _ _ a.0; within = leb-true _ _ a.1; bytes = cc }
    go false q e = let z : ◌≡◌ {A = ℕ} 0 1 = cc in absurd (omega arith)

-- a frame with its length is in the input
pub found-length : (input f : List ℕ) → first_frame input ≡ Some f → 2 + length f ≤ length input
found-length input f e =
    let w = found input f e in
    let l : length f ≡ int 0 2 input =
    ap length w.bytes ∙ length-take-le (int 0 2 input) (drop 2 input) (omega (arith, w.within, length-drop 2 input)) in
    omega (arith, w.within)

-- and it stays the first, whatever comes after it
pub found-more : (input more f : List ℕ) → first_frame input ≡ Some f → first_frame (input ++ more) ≡ Some f
found-more input more f e =
    let w = found input f e in
    let n : ℕ = int 0 2 input in
    let i : n ≡ int 0 2 (input ++ more) = ap number (sym (take-append-le 2 input more w.head)) in
    let l : length (input ++ more) ≡ length input + length more = length-append input more in
    let d : drop 2 (input ++ more) ≡ drop 2 input ++ more = drop-append-le 2 input more w.head in
    let t : part 2 n (input ++ more) ≡ f =
    ap (take n) d ∙ take-append-le n (drop 2 input) more (omega (arith, w.within, length-drop 2 input)) ∙ sym w.bytes in
    sym (whole (input ++ more) n i (omega (arith, w.head)) (omega (arith, w.within))) ∙ ap (λ (x : List ℕ). Some x) t

-- ---- all frames

pub begins-append : (input : List ℕ) (fs gs : List (List ℕ)) (mid rest : List ℕ)
    → Begins input fs mid → Begins mid gs rest → Begins input (fs ++ gs) rest
unfolding Begins
begins-append input [] gs mid rest b c = rw b c
begins-append input (f ∷ fs) gs mid rest b c = (b.0, begins-append (drop (2 + length f) input) fs gs mid rest b.1 c)

pub begins-more : (input : List ℕ) (fs : List (List ℕ)) (rest more : List ℕ)
    → Begins input fs rest → Begins (input ++ more) fs (rest ++ more)
unfolding Begins
begins-more input [] rest more b = ap (λ (l : List ℕ). l ++ more) b
begins-more input (f ∷ fs) rest more b = (
  found-more input more f b.0,
  rw (drop-append-le (2 + length f) input more (found-length input f b.0)) (begins-more (drop (2 + length f) input) fs rest more b.1),
)

begins-only : (input : List ℕ) (fs gs : List (List ℕ)) (rest last : List ℕ) → Begins input fs rest → first_frame rest ≡ None
    → Begins input gs last → first_frame last ≡ None → (fs ≡ gs) × (rest ≡ last)
unfolding Begins
begins-only input [] [] rest last b n c m = (refl, sym b ∙ c)
begins-only input [] (g ∷ gs) rest last b n c m =
    let e : first_frame input ≡ None = ap first_frame b ∙ n in
    let g' = c.0 in
    let z : ◌≡◌ {A = ℕ} 0 1 = cc in
    absurd (omega arith)
begins-only input (f ∷ fs) [] rest last b n c m =
    let e : first_frame input ≡ None = ap first_frame c ∙ m in
    let f' = b.0 in
    let z : ◌≡◌ {A = ℕ} 0 1 = cc in
    absurd (omega arith)
begins-only input (f ∷ fs) (g ∷ gs) rest last b n c m =
    let p = b.0 in
    let q = c.0 in
    let e : f ≡ g = cc in
    let c' : Begins (drop (2 + length f) input) gs last =
    subst (λ (x : List ℕ). Begins (drop (2 + length x) input) gs last) (sym e) c.1 in
    let r : (fs ≡ gs) × (rest ≡ last) = begins-only (drop (2 + length f) input) fs gs rest last b.1 n c' m in
    (ap₂ (λ (x : List ℕ) (xs : List (List ℕ)). x ∷ xs) e r.0, r.1)

-- ---- where bytes are cut

pub cut-none : (bytes : List ℕ) → CutAt bytes 0
unfolding Begins
cut-none bytes = record { frames = []; begins = refl }

-- further on, by frames that the bytes from there on begin with
pub cut-more : {bytes : List ℕ} {at : ℕ} (n : ℕ) (fs : List (List ℕ))
    → CutAt bytes at → Begins (drop at bytes) fs (drop n (drop at bytes)) → CutAt bytes (at + n)
cut-more {bytes} {at} n fs c b = record {
  frames = c.frames ++ fs;
  begins = subst (Begins bytes (c.frames ++ fs)) (drop-drop n at bytes)
      (begins-append bytes c.frames fs (drop at bytes) (drop n (drop at bytes)) c.begins b);
}

pub in_pieces : InPieces
in_pieces = record {
  joined = λ a b fs gs kept rest p q. begins-append (a ++ b) fs gs (kept ++ b) rest (begins-more a fs kept b p) q;
  only = begins-only;
}
