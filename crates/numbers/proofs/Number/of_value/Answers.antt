-- Right because the first n of 16 bytes are all of them without the last 16 - n. Assumes nothing.
use Prim.Native.Nat.{ℕ, ◌+◌, ◌*◌, ◌-◌, ◌^◌, ◌<◌, ◌/◌, min}
use native.Mathlib.Omega.{arith}
use native.Mathlib.Decide.{dec_le}
use mathlib.Core.List.{List}
use mathlib.Core.Path.{◌≡◌, sym, ap, ◌∙◌}
use lib.ListN.{length, get_or}
use Rattle.std.proofs.Common.{Option, Some, None}
use Rattle.std.specs.Option.{SomeIff, unwrap_or}
use Rattle.rules.specs.Bytes.{int}
use Rattle.rules.specs.Value.{value}
use Rattle.numbers.proofs.Bits.{byte-bits}
use Rattle.numbers.proofs.Bytes.{int-all, int-front, int-none}
use Rattle.numbers.proofs.Number.of_value.Goals as goal

module _ (v : List ℕ) (n : ℕ) (b : (i : ℕ) → get_or v i 0 < 256) (l : length v ≡ 17) (e : n ≡ min (get_or v 0 0) 16) where
  -- a length over 16 reads as 16
  cut : int 1 n v ≡ value v
  cut = elim (dec_le 16 (get_or v 0 0)) [
    | yes h ↦ int-all 1 n (get_or v 0 0) v (omega arith) (omega arith)
    | no h ↦ (let s : n ≡ get_or v 0 0 = omega arith in ap (λ (m : ℕ). int 1 m v) s)
  ]

  -- n bytes are all 16 with the others shifted out, and none where nothing is left
  front : (o : Option ℕ) → SomeIff o (128 - 8 * n < 128) (int 1 16 v / 2 ^ (128 - 8 * n)) → unwrap_or o 0 ≡ value v
  front (Some x) s =
      let k : ℕ = 16 - n in
      let p : n + k ≡ 16 = omega arith in
      let q : 8 * k ≡ 128 - 8 * n = omega arith in
      s.1 ∙ ap (λ (m : ℕ). int 1 16 v / 2 ^ m) (sym q) ∙ ap (λ (m : ℕ). int 1 16 v / m) (sym (byte-bits k))
      ∙ ap (λ (m : ℕ). int 1 m v / 256 ^ k) (sym p) ∙ sym (int-front 1 n k v b (omega arith)) ∙ cut
  front None s =
      let z : n ≡ 0 = omega arith in
      sym (ap (λ (m : ℕ). int 1 m v) z ∙ int-none 1 v) ∙ cut

pub returns : goal.returns
returns c =
    let a = c.args in
    let all : c.from-all.result ≡ int 1 16 a.v.now = c.from-all.ensures ∙ c.from_bytes.ensures in
    let m : c.min-n.result ≡ min (get_or a.v.now 0 0) 16 = omega (arith, c.min-n.ensures, c.from.ensures) in
    c.from-2.ensures ∙ c.unwrap_or.ensures
    ∙ front a.v.now c.min-n.result c.fits-v (omega arith) m _ (rw all at c.checked_shr.ensures)
