-- Right because the digits of a number are those of its tenth, and its last one. Assumes nothing.
use Rattle.std.proofs.Common.{◌≡◌, [], ◌∷◌, ◌++◌, List, ℕ, ◌-◌, ◌/◌, ◌%◌, ◌≤◌, ◌<◌, sym, ap, ◌∙◌, subst, arith}
use Rattle.transcript.specs.Line.{digit, digits}
use Rattle.transcript.specs.Written.{HasRoom, Adds}
use Rattle.transcript.proofs.Written.{adds-none, adds-then, room-after, room-front}
use Rattle.transcript.proofs.Lines.{digits-none, digits-one, digits_more}
use Rattle.transcript.proofs.Line.+digits.Goals as goal

-- the one digit as the code makes it
one : (most x d : ℕ) → (most ≡ 0 → ⊥) → x < 10 → d ≡ digit x → digits most x ≡ d ∷ []
one most x d some few e = digits-one most x some few ∙ ap (λ (k : ℕ). k ∷ []) (sym e)

-- the digits of the tenth, then the last one as the code makes it
more : (most x d : ℕ) → (most ≡ 0 → ⊥) → 10 ≤ x → d ≡ digit (x % 10) → digits most x ≡ digits (most - 1) (x / 10) ++ (d ∷ [])
more most x d some many e = digits_more most x some many ∙ ap (λ (k : ℕ). digits (most - 1) (x / 10) ++ (k ∷ [])) (sym e)

pub returns-then-most-eq0 : goal.returns-then-most-eq0
returns-then-most-eq0 t c =
    let a = c.args in
    let e = digits-none a.most a.x c.if-most-eq0.true in
    let room : HasRoom a.self.now [] = subst (HasRoom a.self.now) e c.requires in
    subst (λ (l : List ℕ). Adds a.self.now l a.self.now) (sym e) (adds-none a.self.now (omega (arith, room)))

pub push-requires : goal.push-requires
push-requires t c =
    let a = c.args in subst (HasRoom a.self.now) (one a.most a.x c.glyph.result c.if-most-eq0.false c.if-x-lt10.true c.glyph.ensures) c.requires

pub returns-then-x-lt10 : goal.returns-then-x-lt10
returns-then-x-lt10 t c =
    let a = c.args in
    let e = one a.most a.x c.glyph.result c.if-most-eq0.false c.if-x-lt10.true c.glyph.ensures in
    subst (λ (l : List ℕ). Adds a.self.now l c.push.new.self) (sym e) c.push.ensures

pub digits-requires : goal.digits-requires
digits-requires t c =
    let a = c.args in
    let r = subst (HasRoom a.self.now) (digits_more a.most a.x c.if-most-eq0.false c.if-x-lt10.false) c.requires in
    (omega (arith, c.decreases), room-front a.self.now (digits (a.most - 1) (a.x / 10)) (digit (a.x % 10) ∷ []) r)

pub push-requires-2 : goal.push-requires-2
push-requires-2 t c =
    let a = c.args in
    let e = more a.most a.x c.glyph-2.result c.if-most-eq0.false c.if-x-lt10.false c.glyph-2.ensures in
    room-after c.digits.ensures (c.glyph-2.result ∷ []) (subst (HasRoom a.self.now) e c.requires)

pub returns : goal.returns
returns t c =
    let a = c.args in
    let e = more a.most a.x c.glyph-2.result c.if-most-eq0.false c.if-x-lt10.false c.glyph-2.ensures in
    subst (λ (l : List ℕ). Adds a.self.now l c.push-2.new.self) (sym e) (adds-then c.digits.ensures c.push-2.ensures)
