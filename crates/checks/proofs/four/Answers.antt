-- Right because the first four chunks are the first four parts. Assumes nothing.
use Rattle.std.proofs.Common.{◌≡◌, ℕ, zero, suc, ◌≤◌, ◌/◌, List, ◌∷◌, length, take, drop, arith, refl, ap, ◌∙◌}
use Rattle.std.specs.Simd.{first_chunks}
use Rattle.rules.specs.Bytes.{parts}
use Rattle.rules.proofs.Lists.{rest_all}
use Rattle.checks.proofs.four.Goals as goal

front : (n m w : ℕ) (l : List ℕ) → n ≤ m → take n (first_chunks w m l) ≡ parts n w l
unfolding parts
front zero m w l h = refl
front (suc n) zero w l h = absurd (omega arith)
front (suc n) (suc m) w l h = ap (λ (ps : List (List ℕ)). take w l ∷ ps) (front n m w (drop w l) (omega arith))

pub returns : goal.returns
returns g c =
    let a = c.args in
    let first = rw c.unwrap.ensures at c.first_chunk.ensures.cases in
    let l : ℕ = length (drop a.at a.b.now) / g.row.N in
    let all = rw (rest_all a.at a.b.now) at c.as_chunks.ensures.front in
    let many = rw (rest_all a.at a.b.now) at c.as_chunks.ensures.front_len in
    let enough : 4 ≤ l = omega (arith, first.enough, many) in
    first.same ∙ ap (take 4) all ∙ front 4 l g.row.N (drop a.at a.b.now) enough
