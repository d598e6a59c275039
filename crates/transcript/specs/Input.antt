-- The input of `play`: frames, each after a length of 2 bytes, until the input ends or breaks off (document 01, "Bench cases").
-- Assumes nothing.
use Rattle.std.specs.Prelude.{◌&&◌, List, [], ◌∷◌, ◌++◌, ◌≡◌, ℕ, ◌+◌, leb, length, drop, if◌then◌else◌, Option, Some, None}
use Rattle.rules.specs.Bytes.{int, part}

-- the first frame of an input; none where it ends or breaks off
unfoldable pub first_frame : List ℕ → Option (List ℕ)
first_frame input =
    let n = int 0 2 input in
    if leb 2 (length input) && leb (2 + n) (length input) then Some (part 2 n input) else None

-- an input begins with these frames, each after its length, and goes on with the rest
unfoldable pub Begins : List ℕ → List (List ℕ) → List ℕ → Type 0
Begins input [] rest = input ≡ rest
Begins input (f ∷ fs) rest = (first_frame input ≡ Some f) × Begins (drop (2 + length f) input) fs rest

-- Bytes are cut at a place: up to it they are whole frames.
pub record CutAt (bytes : List ℕ) (at : ℕ) : Type 0 where
  pub frames : List (List ℕ)
  pub begins : Begins bytes frames (drop at bytes)

-- An input that is read in pieces, with what is left of one kept before the next, is cut into the same frames as the whole of it;
-- and up to where no whole frame is left, there is one way to cut it.
pub record InPieces : Type 0 where
  pub joined : (a b : List ℕ) (fs gs : List (List ℕ)) (kept rest : List ℕ)
      → Begins a fs kept → Begins (kept ++ b) gs rest → Begins (a ++ b) (fs ++ gs) rest
  pub only : (input : List ℕ) (fs gs : List (List ℕ)) (rest last : List ℕ)
      → Begins input fs rest → first_frame rest ≡ None → Begins input gs last → first_frame last ≡ None → (fs ≡ gs) × (rest ≡ last)
