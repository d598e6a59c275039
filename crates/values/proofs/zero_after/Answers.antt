-- Right because these bytes are the last ones of a word, or of two. Assumes nothing.
use Prim.Native.Nat.{ℕ, ◌^◌}
use native.Mathlib.Omega.{arith}
use mathlib.Core.Path.{◌≡◌, refl, sym, ap₂, ◌∙◌}
use mathlib.Core.Bool.{Bool, true, false, ◌&&◌}
use mathlib.Core.List.{List}
use lib.Dec.{eqb, ltb}
use borrow.Author.Tests.{eq-eqb, ne_eqb}
use Rattle.rules.specs.Bytes.{part}
use Rattle.buffers.specs.Word.{little_endian}
use Rattle.buffers.proofs.Words.{Bytes}
use Rattle.values.proofs.Padding.{none_after, after-eight, after_fewer}
use Rattle.values.proofs.zero_after.Goals as goal

last-false : (b : Bool) → b && false ≡ false
last-false true = refl
last-false false = refl

last-true : (b : Bool) → b && true ≡ b
last-true true = refl
last-true false = refl

pub returns-then-n-eq16 : goal.returns-then-n-eq16
returns-then-n-eq16 c =
    let bytes : Bytes c.args.v.now = record { at = c.fits-v } in
    sym (none_after c.args.v.now c.args.n (omega arith) bytes c.if-n-eq16.true)

pub returns-then-n-ge8 : goal.returns-then-n-ge8
returns-then-n-ge8 c =
    let bytes : Bytes c.args.v.now = record { at = c.fits-v } in
    ap₂ ltb c.word-last.ensures c.power.ensures ∙ after-eight c.args.v.now c.args.n (omega arith) bytes (omega arith)

pub returns-then-last-eq0 : goal.returns-then-last-eq0
returns-then-last-eq0 c =
    let v : List ℕ = c.args.v.now in
    let n : ℕ = c.args.n in
    let bytes : Bytes v = record { at = c.fits-v } in
    let z : eqb (little_endian (part 9 8 v)) 0 ≡ true = eq-eqb _ _ (sym c.word-last.ensures ∙ c.if-last-eq0.true) in
    ap₂ ltb c.word.ensures c.power-then-last-eq0.ensures
    ∙ sym (after_fewer v n (omega arith) bytes true (omega arith) z ∙ last-true (ltb (little_endian (part 1 8 v)) (256 ^ n)))

pub returns-else-last-eq0 : goal.returns-else-last-eq0
returns-else-last-eq0 c =
    let v : List ℕ = c.args.v.now in
    let n : ℕ = c.args.n in
    let bytes : Bytes v = record { at = c.fits-v } in
    let z : eqb (little_endian (part 9 8 v)) 0 ≡ false = ne_eqb _ _ (λ e. c.if-last-eq0.false (c.word-last.ensures ∙ e)) in
    ne_eqb _ _ c.if-last-eq0.false
    ∙ sym (after_fewer v n (omega arith) bytes false (omega arith) z ∙ last-false (ltb (little_endian (part 1 8 v)) (256 ^ n)))
