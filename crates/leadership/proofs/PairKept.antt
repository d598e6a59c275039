-- The pair (primary or none, mark) of a role before and after an accepted ARBITRATE, from what its scan shows. Assumes nothing.
use Rattle.std.specs.Prelude.{if◌then◌else◌}
use Prim.Native.Nat.{ℕ, ◌<◌, ◌≤◌, max}
use native.Mathlib.Omega.{arith}
use mathlib.Core.Path.{◌≡◌, refl, sym, ap, ◌∙◌}
use mathlib.Core.Bool.{Bool, true, false, ◌&&◌, not, beq, and-true as and-unit, and-false as and_none}
use mathlib.Core.List.{List}
use mathlib.Core.Option.{Option, none}
use lib.Dec.{eqb, ltb}
use lib.ListN.{length, get_or, set, get_or-eq_default}
use lib.Seq.{set_out, set-get_or, get_or-set_same}
use borrow.Author.Tests.{eqb-true, eqb-false, eq-eqb, ne_eqb, ltb-true, ltb-false, not-true}
use Rattle.rules.specs.Bytes.{some_of}
use Rattle.rules.specs.Frame.{Head}
use Rattle.rules.specs.Streams.{bound, Streams, stream_at, holds, numbers, head, is, mark_of, primary, held_elsewhere}
use Rattle.rules.specs.Streams.{binds, same_option, same_pair}
use Rattle.rules.proofs.Tests.{contradiction, and-true, and-false, both_true}
use Rattle.election.specs.declared.Head.{Head as Asked}
use Rattle.election.specs.Meaning.{id_of, head_of}
use Rattle.leadership.specs.declared.Scan.{Scan}
use Rattle.leadership.specs.Meaning.{primary_of}
use Rattle.leadership.specs.Scanning.{KeepsOf}
use Rattle.leadership.proofs.ArbitrateReason.{accepted-role, accepted-within, accepted-alone}
use Rattle.leadership.proofs.FirstPassing.{other, not-passing, passes-no-more, passes-alone}

-- ---- the primary, by the mark

unset-primary : (e : Streams) (r : ℕ) → mark_of e r ≡ 0 → none ≡ primary e r
unfolding primary
unset-primary e r z = rw z

set-primary : (e : Streams) (r : ℕ) {m : ℕ} → mark_of e r ≡ m → eqb m 0 ≡ false → head (numbers (holds r m) 0 e.streams) ≡ primary e r
unfolding primary
set-primary e r z t = rw (z, t)

-- an id that is set and the mark: the primary is its first holder
pub mark-primary : (e : Streams) (r i : ℕ) → not (eqb i 0) && eqb i (mark_of e r) ≡ true → head (numbers (holds r i) 0 e.streams) ≡ primary e r
mark-primary e r i t =
    let q = and-true (not (eqb i 0)) (eqb i (mark_of e r)) t in
    set-primary e r (sym (eqb-true i (mark_of e r) q.1)) (not-true (eqb i 0) q.0)

-- a stream with another id than the mark is not the primary
other-id : (e : Streams) (s : ℕ) {r i : ℕ} → bound r i ≡ stream_at e s → eqb i (mark_of e r) ≡ false → false ≡ is s (primary e r)
unfolding primary
other-id e s {r} {i} h t = go (eqb (mark_of e r) 0)
  where
    p : holds r (mark_of e r) (stream_at e s) ≡ false
    p = rw (← h, eq-eqb r r refl, t)

    go : (b : Bool) → false ≡ is s (if b then none else head (numbers (holds r (mark_of e r)) 0 e.streams))
    go true = refl
    go false = sym (not-passing (holds r (mark_of e r)) e.streams 0 s s (omega arith) p)

-- nor is one with the unset id
pub not-primary : (e : Streams) (s : ℕ) {r i : ℕ} → bound r i ≡ stream_at e s → not (eqb i 0) && eqb i (mark_of e r) ≡ false
    → false ≡ is s (primary e r)
not-primary e s {r} {i} h = go (eqb i 0) (eqb-true i 0) (eqb i (mark_of e r)) refl
  where
    go : (b : Bool) → (b ≡ true → i ≡ 0) → (c : Bool) → eqb i (mark_of e r) ≡ c → not b && c ≡ false → false ≡ is s (primary e r)
    go b p false q t = other-id e s h q
    go true p true q t = ap (is s) (unset-primary e r (sym (eqb-true i (mark_of e r) q) ∙ p refl))
    go false p true q t = contradiction refl t

-- ---- the pair

module _ (e e' : Streams) (r : ℕ) where
  marks-differ : eqb (mark_of e r) (mark_of e' r) ≡ false → false ≡ same_pair e e' r
  marks-differ m = rw m (sym (and_none (same_option (primary e r) (primary e' r))))

  marks-agree : {p q : Option ℕ} → p ≡ primary e r → q ≡ primary e' r → eqb (mark_of e r) (mark_of e' r) ≡ true
      → same_option p q ≡ same_pair e e' r
  marks-agree {p} {q} x y m = rw (m, ← x, ← y) (sym (and-unit (same_option p q)))

module _ (e : Streams) (s : ℕ) (h : Head) (size : length e.marks ≡ 8) where
  abbrev role : ℕ
  role = h.role

  -- the mark before
  abbrev mark : ℕ
  mark = mark_of e h.role

  -- the record after
  abbrev after : Streams
  after = binds e s h

  -- the mark's first holder before
  abbrev holder : Option ℕ
  holder = head (numbers (holds role mark) 0 e.streams)

  mark-raised : role < 8 → mark < h.id → mark_of after role ≡ h.id
  unfolding binds
  mark-raised l m = get_or-set_same e.marks role (max mark h.id) 0 (omega arith) ∙ omega arith

  mark-kept : h.id ≤ mark → mark_of after role ≡ mark
  unfolding binds
  mark-kept l =
      let q : max mark h.id ≡ mark = omega arith in
      ap (λ (x : ℕ). get_or (set e.marks role x) role 0) q ∙ ap (λ (l : List ℕ). get_or l role 0) (set-get_or e.marks role 0)

  mark-past : 8 ≤ role → mark_of after role ≡ mark
  unfolding binds
  mark-past l = ap (λ (l : List ℕ). get_or l role 0) (set_out e.marks role _ (omega arith))

  -- a mark that rises changes the pair
  rises : role < 8 → mark < h.id → false ≡ same_pair e after role
  rises l m =
      let z = mark-raised l m in
      let d : mark ≡ mark_of after role → ⊥ = λ q. omega arith in
      marks-differ e after role (ne_eqb _ _ d)

  -- without a mark there is no primary
  pub pair-unset : mark ≡ 0 → not (ltb role 8 && not (eqb h.id 0)) ≡ same_pair e after role
  pair-unset z = go (ltb role 8) (ltb-true _ _) (ltb-false _ _) (eqb h.id 0) (eqb-true _ _) (eqb-false _ _)
    where
      stays : mark_of after role ≡ 0 → true ≡ same_pair e after role
      stays y = marks-agree e after role (unset-primary e role z) (unset-primary after role y) (eq-eqb _ _ (z ∙ sym y))

      go : (a : Bool) → (a ≡ true → role < 8) → (a ≡ false → 8 ≤ role) → (b : Bool) → (b ≡ true → h.id ≡ 0) → (b ≡ false → h.id ≡ 0 → ⊥)
          → not (a && not b) ≡ same_pair e after role
      go false l g b p q = stays (mark-past (g refl) ∙ z)
      go true l g true p q = let i = p refl in stays (mark-kept (omega arith) ∙ z)
      go true l g false p q = let i = q refl in rises (l refl) (omega (arith, i))

  module _ (t : eqb mark 0 ≡ false) where
    pub pair-raised : mark < h.id → false ≡ same_pair e after role
    pair-raised m = go (ltb role 8) (ltb-true _ _) (ltb-false _ _)
      where
        go : (a : Bool) → (a ≡ true → role < 8) → (a ≡ false → 8 ≤ role) → false ≡ same_pair e after role
        go true l g = rises (l refl) m
        go false l g =
            let p = g refl in
            absurd (eqb-false _ _ t (get_or-eq_default e.marks 0 (omega arith)))

    module _ (l : h.id ≤ mark) where
      primaries : same_option holder (head (numbers (holds role mark) 0 (set e.streams s (bound role h.id)))) ≡ same_pair e after role
      unfolding binds
      primaries =
          marks-agree e after role (set-primary e role refl t) (set-primary after role (mark-kept l) t) (eq-eqb _ _ (sym (mark-kept l)))

      -- the stream becomes the mark's only holder
      pub pair-holder : h.id ≡ mark → s < length e.streams → held_elsewhere e s role h.id ≡ false → is s holder ≡ same_pair e after role
      unfolding held_elsewhere
      pair-holder q n f =
          let i : eqb h.id 0 ≡ false = rw q t in
          let g : some_of (other s) (numbers (holds role h.id) 0 e.streams) ≡ false = and-false (not (eqb h.id 0)) _ f (ap not i) in
          let g' : some_of (other s) (numbers (holds role mark) 0 e.streams) ≡ false = rw (← q) g in
          let x : holds role mark (bound role h.id) ≡ true = both_true (eq-eqb role role refl) (eq-eqb _ _ q) in
          sym (passes-alone (holds role mark) (bound role h.id) x e.streams 0 s s (omega arith) n g') ∙ primaries

      -- the stream does not hold the mark
      pub pair-other : eqb h.id mark ≡ false → not (is s holder) ≡ same_pair e after role
      pair-other q =
          let x : holds role mark (bound role h.id) ≡ false = rw (eq-eqb role role refl, q) in
          sym (passes-no-more (holds role mark) (bound role h.id) x e.streams 0 s s (omega arith)) ∙ primaries

-- ---- an accepted ARBITRATE, by what the scan shows

-- whether the pair stays, where m is the mark, i the id, and t says whether the stream is the primary
abbrev pub pair_stays : (r m i : ℕ) (t : Bool) → Bool
pair_stays r m i t =
    if eqb m 0 then not (ltb r 8 && not (eqb i 0)) else
    if ltb m i then false else
    beq t (eqb i m)

beq-true : (b : Bool) → beq b true ≡ b
beq-true true = refl
beq-true false = refl

beq-false : (b : Bool) → beq b false ≡ not b
beq-false true = refl
beq-false false = refl

stays : (e : Streams) (s : ℕ) (h : Head) → length e.marks ≡ 8 → s < length e.streams → held_elsewhere e s h.role h.id ≡ false
    → pair_stays h.role (mark_of e h.role) h.id (is s (primary e h.role)) ≡ same_pair e (binds e s h) h.role
stays e s h size n f = go (eqb m 0) (eqb-true m 0) refl (ltb m h.id) (ltb-true m h.id) (ltb-false m h.id)
  where
    m : ℕ
    m = mark_of e h.role

    led : Bool
    led = is s (primary e h.role)

    same : Bool
    same = same_pair e (binds e s h) h.role

    tested : eqb m 0 ≡ false → h.id ≤ m → (b : Bool) → eqb h.id m ≡ b → (b ≡ true → h.id ≡ m) → beq led b ≡ same
    tested t l true q g = beq-true led ∙ sym (ap (is s) (set-primary e h.role refl t)) ∙ pair-holder e s h size t l (g refl) n f
    tested t l false q g = beq-false led ∙ sym (ap (λ (o : Option ℕ). not (is s o)) (set-primary e h.role refl t)) ∙ pair-other e s h size t l q

    go : (z : Bool) → (z ≡ true → m ≡ 0) → eqb m 0 ≡ z → (b : Bool) → (b ≡ true → m < h.id) → (b ≡ false → h.id ≤ m)
        → (if z then not (ltb h.role 8 && not (eqb h.id 0)) else if b then false else beq led (eqb h.id m)) ≡ same
    go true p q b l g = pair-unset e s h size (p refl)
    go false p q true l g = pair-raised e s h size q (l refl)
    go false p q false l g = tested q (g refl) (eqb h.id m) refl (eqb-true h.id m)

pub kept-shown : (scan : Scan) (h : Asked) (s : ℕ) {t : Bool}
    → t ≡ pair_stays h.role (id_of scan.leadership.mark) (id_of h.id) (is s (primary_of scan.leadership.primary)) → KeepsOf t s h scan
kept-shown scan h s q device e w z =
    let r : scan.leadership.role ≡ h.role = w.role ∙ accepted-role e s device (head_of h) z w.own in
    let n = accepted-within e s device (head_of h) z in
    q
    ∙ rw (w.leadership.mark, w.leadership.primary, r)
    (stays e s (head_of h) w.marks n (accepted-alone e s device (head_of h) z))
