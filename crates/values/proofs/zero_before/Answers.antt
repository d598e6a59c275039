-- Right because these bytes are the first ones of a word, or a word and the first ones of another. Assumes nothing.
use Prim.Native.Nat.{ℕ, ◌-◌, ◌%◌, ◌^◌, ◌<◌}
use native.Mathlib.Nat.{pow-le-pow_right}
use native.Mathlib.Omega.{arith}
use mathlib.Core.Path.{◌≡◌, sym, ap₂, ◌∙◌}
use mathlib.Core.Bool.{true, false}
use mathlib.Core.List.{List}
use lib.Dec.{lit<, eqb}
use borrow.Author.Tests.{eq-eqb, ne_eqb}
use Rattle.rules.specs.Bytes.{part}
use Rattle.buffers.specs.Word.{little_endian}
use Rattle.buffers.proofs.Words.{Bytes}
use Rattle.values.proofs.Padding.{before-eight, before_more}
use Rattle.values.proofs.zero_before.Goals as goal

-- a power is a divisor
some : (k : ℕ) → 0 < 256 ^ k
some k = omega (arith, pow-le-pow_right {n = 256} (lit< tt) {i = 0} {j = k} (omega arith))

pub nonzero_rem-result : goal.nonzero_rem-result
nonzero_rem-result c = omega (arith, c.power.ensures, some c.args.k)

pub returns-then-k-lt8 : goal.returns-then-k-lt8
returns-then-k-lt8 c =
    let bytes : Bytes c.args.v.now = record { at = c.fits-v } in
    ap₂ (λ (x p : ℕ). eqb (x % p) 0) c.word-first.ensures c.power.ensures ∙ before-eight c.args.v.now c.args.k bytes (omega arith)

pub nonzero_rem-result-then-first-eq0 : goal.nonzero_rem-result-then-first-eq0
nonzero_rem-result-then-first-eq0 c = omega (arith, c.power-then-first-eq0.ensures, some (c.args.k - 8))

pub returns-then-first-eq0 : goal.returns-then-first-eq0
returns-then-first-eq0 c =
    let v : List ℕ = c.args.v.now in
    let bytes : Bytes v = record { at = c.fits-v } in
    let z : eqb (little_endian (part 1 8 v)) 0 ≡ true = eq-eqb _ _ (sym c.word-first.ensures ∙ c.if-first-eq0.true) in
    ap₂ (λ (x p : ℕ). eqb (x % p) 0) c.word.ensures c.power-then-first-eq0.ensures
    ∙ sym (before_more v c.args.k bytes true (omega arith) (omega arith) z)

pub returns-else-first-eq0 : goal.returns-else-first-eq0
returns-else-first-eq0 c =
    let v : List ℕ = c.args.v.now in
    let bytes : Bytes v = record { at = c.fits-v } in
    let z : eqb (little_endian (part 1 8 v)) 0 ≡ false = ne_eqb _ _ (λ e. c.if-first-eq0.false (c.word-first.ensures ∙ e)) in
    ne_eqb _ _ c.if-first-eq0.false ∙ sym (before_more v c.args.k bytes false (omega arith) (omega arith) z)
