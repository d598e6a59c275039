-- Right because two words of bytes are equal exactly when the bytes are. Assumes nothing.
use lib.Dec.{eqb}
use Rattle.buffers.specs.Word.{little_endian}
use Rattle.buffers.proofs.Words.{eight-same}
use native.Mathlib.Omega.{arith}
use Prim.Native.Nat.{ℕ}
use mathlib.Core.Path.{◌≡◌, ap, ◌∙◌}
use lib.ListN.{take, drop}
use Rattle.buffers.proofs.equal_eight.Goals as goal

pub returns : goal.returns
returns c =
    let a = c.args in
    let x : ℕ = little_endian (take 8 (drop a.i a.a.now)) in
    let y : ℕ = little_endian (take 8 (drop a.j a.b.now)) in
    let e : eqb c.word.result c.word-2.result ≡ eqb x y =
    ap (λ (z : ℕ). eqb z c.word-2.result) c.word.ensures ∙ ap (eqb x) c.word-2.ensures in
    e ∙ eight-same a.a.now a.b.now a.i a.j (omega arith) (omega arith)
    (record { at = λ k. (c.type_inv.a k).fits })
    (record { at = λ k. (c.type_inv.b k).fits })
