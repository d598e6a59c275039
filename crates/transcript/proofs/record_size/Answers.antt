-- Right because each arm gives what the definition gives of its bytes. Assumes nothing.
use Rattle.std.specs.Prelude.{if◌then◌else◌}
use Prim.Native.Nat.{ℕ, zero, suc, ◌≤◌, ◌<◌}
use native.Mathlib.Omega.{arith}
use mathlib.Core.Path.{◌≡◌, refl, sym, ap, ◌∙◌}
use mathlib.Core.List.{List, [], ◌∷◌}
use lib.Dec.{eqb}
use lib.ListN.{length}
use borrow.Author.Tests.{ne_eqb}
use Rattle.rules.specs.Bytes.{byte}
use Rattle.transcript.specs.Line.{record_size}
use Rattle.transcript.proofs.record_size.Goals as goal

-- the size by the command byte
abbrev size : ℕ → ℕ
size c =
    if eqb c 0x01 then 20 else if eqb c 0x02 then 20 else if eqb c 0x03 then 20 else
    if eqb c 0x05 then 2 else if eqb c 0x06 then 220 else 0

size_none : (f : List ℕ) → length f < 1 → 0 ≡ record_size f
unfolding record_size
size_none [] h = refl
size_none (c ∷ f) h = absurd (omega arith)

size-some : (f : List ℕ) → 1 ≤ length f → size (byte 0 f) ≡ record_size f
unfolding record_size
size-some [] h = absurd (omega arith)
size-some (c ∷ f) h = refl

size-streams : (c : ℕ) → (c ≡ 0 → ⊥) → c < 4 → 20 ≡ size c
size-streams zero n l = absurd (n refl)
size-streams (suc zero) n l = refl
size-streams (suc (suc zero)) n l = refl
size-streams (suc (suc (suc zero))) n l = refl
size-streams (suc (suc (suc (suc c)))) n l = absurd (omega arith)

size-unknown : (c : ℕ) → 7 ≤ c → 0 ≡ size c
size-unknown c l =
    let n1 : c ≡ 1 → ⊥ = λ e. omega arith in
    let n2 : c ≡ 2 → ⊥ = λ e. omega arith in
    let n3 : c ≡ 3 → ⊥ = λ e. omega arith in
    let n5 : c ≡ 5 → ⊥ = λ e. omega arith in
    let n6 : c ≡ 6 → ⊥ = λ e. omega arith in
    rw (ne_eqb c 1 n1, ne_eqb c 2 n2, ne_eqb c 3 n3, ne_eqb c 5 n5, ne_eqb c 6 n6)

pub returns-in_default : goal.returns-in_default
returns-in_default c = size_none c.args.frame.now c.in_default.len_below

pub returns-in-0 : goal.returns-in-0
returns-in-0 c = ap size (sym c.in-0.is) ∙ size-some c.args.frame.now c.in-len1-up.len_at_least

pub returns-in-4 : goal.returns-in-4
returns-in-4 c = ap size (sym c.in-4.is) ∙ size-some c.args.frame.now c.in-len1-up.len_at_least

pub returns-in-5 : goal.returns-in-5
returns-in-5 c = ap size (sym c.in-5.is) ∙ size-some c.args.frame.now c.in-len1-up.len_at_least

pub returns-in-6 : goal.returns-in-6
returns-in-6 c = ap size (sym c.in-6.is) ∙ size-some c.args.frame.now c.in-len1-up.len_at_least

pub returns-in-1-to-3 : goal.returns-in-1-to-3
returns-in-1-to-3 c =
    let f : List ℕ = c.args.frame.now in
    size-streams (byte 0 f) (λ h. omega arith) (omega arith) ∙ size-some f c.in-len1-up.len_at_least

pub returns-in-7-to-255 : goal.returns-in-7-to-255
returns-in-7-to-255 c =
    let f : List ℕ = c.args.frame.now in
    size-unknown (byte 0 f) (omega arith) ∙ size-some f c.in-len1-up.len_at_least
