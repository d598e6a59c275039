-- The rules' reader, by a frame's first byte; and the numbers of what it reads. Assumes nothing.
use mathlib.Core.Path.{◌≡◌, refl, sym, subst}
use mathlib.Core.Bool.{Bool, true, ◌&&◌, ◌||◌}
use mathlib.Core.List.{List, [], ◌∷◌}
use Prim.Native.Nat.{ℕ, ◌<◌, ◌≤◌}
use native.Mathlib.Omega.{arith}
use lib.Dec.{eqb}
use lib.ListN.{length}
use borrow.Author.Tests.{leb-true}
use Rattle.std.specs.Prelude.{None, Some, slice_get}
use Rattle.std.proofs.lemmas.Bool.Decides.{nat_tests}
use Rattle.rules.specs.Bytes.{byte}
use Rattle.rules.specs.Frame as rules
use Rattle.rules.specs.Frame.{too_short, malformed, WRITE, READ, on_streams, on_pipeline, on_tables}
use Rattle.rules.specs.Frame.{write_formed, read_formed, configure_of, write_of}
use Rattle.rules.proofs.Tests.{and-true}
use Rattle.rules.proofs.Formed.{read-law}
use Rattle.frames.specs.declared.Batch.{Batch}
use Rattle.frames.specs.declared.Query.{Query}
use Rattle.frames.specs.declared.TableCommand.TheVariants.{Write, Read}
use Rattle.frames.specs.declared.Command.TheVariants.{Table}
use Rattle.frames.specs.Meaning.{frame_read}

-- ---- the first byte

pub by_none : (f : List ℕ) → slice_get f 0 ≡ None → rules.read_frame f ≡ rules.malformed
unfolding rules.read_frame
by_none [] e = refl
by_none (b ∷ f) e = cc

pub by_byte : (f : List ℕ) → 0 < length f → rules.read_frame f ≡ rules.by_command (byte 0 f) f
unfolding rules.read_frame
by_byte [] h = absurd (omega arith)
by_byte (b ∷ f) h = refl

pub by_other : (c : ℕ) (f : List ℕ) → 6 < c → rules.by_command c f ≡ rules.malformed
by_other c f h = grind arith

pub ruleset first_byte = (by_none, by_byte, by_other)

-- ---- the numbers of a table command: *atomicity* is 0 to 2, *only* is 0 or 1

abbrev InRange : rules.Command → Type 0
InRange too_short = Unit {0}
InRange malformed = Unit {0}
InRange (on_streams event) = Unit {0}
InRange (on_pipeline command) = Unit {0}
InRange (on_tables (WRITE h atomicity us)) = atomicity ≤ 2
InRange (on_tables (READ q)) = q.only ≤ 1

zero-or-one : (only : ℕ) (blank named : Bool) → (eqb only 0 && blank) || (eqb only 1 && named) ≡ true → only ≤ 1
zero-or-one only blank named h = grind (arith, nat_tests)

in-range : (f : List ℕ) → InRange (rules.read_frame f)
unfolding configure_of write_of write_formed read_formed
in-range f =
    read-law InRange f tt (λ h. (tt, tt)) (λ h. tt) (λ h. tt)
    (λ h. leb-true (byte 27 f) 2 (and-true _ _ h).1)
    (λ h. zero-or-one (byte 14 f) _ _ (and-true _ _ h).1)

-- of a WRITE that was read
pub atomicity-read : (b : Batch) (f : List ℕ) → frame_read (Some (Table (Write b))) f ≡ rules.read_frame f → b.atomicity ≤ 2
atomicity-read b f e = subst InRange (sym e) (in-range f)

-- of a READ that was read
pub only-read : (q : Query) (f : List ℕ) → frame_read (Some (Table (Read q))) f ≡ rules.read_frame f → q.only ≤ 1
only-read q f e = subst InRange (sym e) (in-range f)
