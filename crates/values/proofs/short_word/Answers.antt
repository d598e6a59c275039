-- Right because each turn puts one byte of the shortest form more below what was read, from the last of the eight down. Assumes nothing.
use Prim.Native.Nat.{ℕ, ◌+◌, ◌-◌, ◌^◌, ◌≤◌, ◌<◌}
use native.Mathlib.Omega.{arith}
use mathlib.Core.Path.{◌≡◌, refl, sym, ap, ◌∙◌, subst}
use mathlib.Core.List.{List}
use lib.ListN.{length, take, drop}
use Rattle.rules.specs.Bytes.{byte, part}
use Rattle.rules.proofs.Shortest.{short-unused, padded-length}
use Rattle.buffers.specs.Word.{little_endian}
use Rattle.buffers.proofs.Words.{word_more, pow-seven}
use Rattle.values.proofs.Compared.{short-from, from-length}
use borrow.Author.Rules.{rules}
use Rattle.values.proofs.short_word.Invariants.{Form}
use Rattle.values.proofs.short_word.Goals as goal

pub returns-then-n-eq0 : goal.returns-then-n-eq0
returns-then-n-eq0 c =
    let a = c.args in
    let z : byte 0 a.v.now ≡ 0 = omega (arith, c.digit_count-n.ensures, c.if-n-eq0.true) in
    c.word.ensures ∙ ap (λ (l : List ℕ). little_endian (part a.at 8 l)) (sym (short-unused a.v.now z))

pub loop-k-init : goal.loop-k-init
loop-k-init c = (search rules, refl)

pub overflow_mul-x : goal.overflow_mul-x
overflow_mul-x c = record { fits = omega (arith, pow-seven (8 - c.loop-k.k) (omega arith), c.loop-k.invariant.0) }

pub overflow_add-x : goal.overflow_add-x
overflow_add-x c =
    record { fits = omega (arith, pow-seven (8 - c.loop-k.k) (omega arith), c.loop-k.invariant.0) }

pub loop-k-preserved : goal.loop-k-preserved
loop-k-preserved c =
    let a = c.args in
    let n : ℕ = c.digit_count-n.result in
    let first : ℕ = c.significant-first.result in
    let form : List ℕ = Form a.v.now n first in
    let few : length (part first (n + 1 - first) a.v.now) ≤ 16 =
    omega (arith, from-length a.v.now n first (omega arith) (omega arith) (omega arith) (omega arith)) in
    let l : length form ≡ 17 = padded-length (part first (n + 1 - first) a.v.now) few in
    let j : ℕ = c.loop-k.k - 1 in
    let s : c.loop-k.k ≡ j + 1 = omega arith in
    let w = word_more form a.at j c.loop-k.x c.from.result (omega arith) (omega arith)
    (omega arith) (c.from.ensures ∙ c.short_digit.ensures)
    (subst (λ (z : ℕ). c.loop-k.x < 256 ^ (8 - z)) s c.loop-k.invariant.0)
    (subst (λ (z : ℕ). c.loop-k.x ≡ little_endian (take (8 - z) (drop (a.at + z) form))) s c.loop-k.invariant.1) in
    w

pub returns : goal.returns
returns c =
    let a = c.args in
    let n : ℕ = c.digit_count-n.result in
    let first : ℕ = c.significant-first.result in
    let form : List ℕ = Form a.v.now n first in
    let e : c.loop-k.k ≡ 0 = omega arith in
    let f : a.at + 0 ≡ a.at = omega arith in
    c.loop-k.invariant.1 ∙ ap (λ (z : ℕ). little_endian (take (8 - z) (drop (a.at + z) form))) e
    ∙ ap (λ (z : ℕ). little_endian (take 8 (drop z form))) f
    ∙ ap (λ (l : List ℕ). little_endian (part a.at 8 l))
    (sym (short-from a.v.now n first (omega arith) c.digit_count-n.ensures (omega arith) c.significant-first.ensures.digits))
