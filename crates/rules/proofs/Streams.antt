-- No event breaks what is sound of streams and marks: an ARBITRATE binds only an id that no other stream of the role holds, and
-- the mark rises with it. Assumes nothing.
use Rattle.std.specs.Prelude.{if◌then◌else◌}
use Prim.Native.Nat.{ℕ, zero, suc, ◌+◌, ◌≤◌, ◌<◌, max}
use mathlib.Core.Path.{◌≡◌, refl, sym, ap, subst, ◌∙◌}
use mathlib.Core.Bool.{Bool, true, false, ◌&&◌, not, false≢true}
use mathlib.Core.List.{List, [], ◌∷◌}
use mathlib.Core.Logic.{◌⊎◌, inl, inr, ⊎_elim}
use mathlib.Core.Option.{Option, none, some}
use native.Mathlib.Nat.{add-zero, add-suc, suc-add}
use native.Mathlib.Omega.{arith}
use lib.Dec.{eqb}
use lib.Seq.{get_or-set_same, get_or-set_other}
use lib.ListN.{length, get_or, set, length-set, replicate}
use borrow.Author.Tests.{eqb-true, eqb-false, ltb-false, ne_eqb, eq-eqb, not-true, not-false}
use Rattle.rules.specs.Bytes.{between, some_of}
use Rattle.rules.specs.Reason.{first}
use Rattle.rules.specs.Frame.{Head}
use Rattle.rules.specs.Streams.{Stream, closed, unbound, bound, Streams, no_streams, stream_at, mark_of, holds}
use Rattle.rules.specs.Streams.{numbers, head, primary, is_some, by_primary, become, open_reason, open_stream}
use Rattle.rules.specs.Streams.{close_reason, close_stream, held_elsewhere, order_of, arbitrate_reason, binds, arbitrate}
use Rattle.rules.specs.Sound.{SoundStreams}
use Rattle.rules.proofs.Tests.{and-true, and-false, or-false}
use Rattle.rules.proofs.Orders.{first-clear}

-- ---- one place of a list

module _ {A : Type 0} where
  -- a place is the one stored to, or stays
  pub set_cases : (l : List A) (s a : ℕ) (x d : A) → ((a ≡ s) × (get_or (set l s x) a d ≡ x)) ⊎ (get_or (set l s x) a d ≡ get_or l a d)
  set_cases [] s a x d = inr refl
  set_cases (y ∷ l) zero zero x d = inl (refl, refl)
  set_cases (y ∷ l) zero (suc a) x d = inr refl
  set_cases (y ∷ l) (suc s) zero x d = inr refl
  set_cases (y ∷ l) (suc s) (suc a) x d = ⊎_elim (λ h. inl (ap suc h.0, h.1)) (λ h. inr h) (set_cases l s a x d)

-- ---- streams found by a test

not-closed : (r i : ℕ) → closed ≡ bound r i → ⊥
not-closed r i e = let z : ◌≡◌ {A = ℕ} 0 1 = cc in omega arith

not-unbound : (r i : ℕ) → unbound ≡ bound r i → ⊥
not-unbound r i e = let z : ◌≡◌ {A = ℕ} 0 1 = cc in omega arith

pub holds-bound : (r i : ℕ) (x : Stream) → x ≡ bound r i → holds r i x ≡ true
holds-bound r i x e = rw (e, eq-eqb r r refl, eq-eqb i i refl)

pub bound-holds : (r i : ℕ) (x : Stream) → holds r i x ≡ true → x ≡ bound r i
bound-holds r i closed e = absurd (false≢true e)
bound-holds r i unbound e = absurd (false≢true e)
bound-holds r i (bound q j) e =
    let h = and-true (eqb q r) (eqb j i) e in
    let p = eqb-true q r h.0 in
    let k = eqb-true j i h.1 in
    cc

-- a test that no listed number passes fails at each place whose stream is listed
listed : (P : ℕ → Bool) (p : Stream → Bool) (k : ℕ) (l : List Stream) → p closed ≡ false → some_of P (numbers p k l) ≡ false
    → (a : ℕ) → p (get_or l a closed) ≡ true → P (k + a) ≡ false
listed P p k [] hc h a ha = absurd (false≢true (sym hc ∙ ha))
listed P p k (x ∷ l) hc h zero ha = rw add-zero (or-false (P k) (some_of P (numbers p (suc k) l)) (rw ha at h)).0
listed P p k (x ∷ l) hc h (suc a) ha =
    subst (λ (m : ℕ). P m ≡ false) (suc-add k a ∙ sym (add-suc k a)) (listed P p (suc k) l hc (rest (p x) h) a ha)
  where
    rest : (b : Bool) → some_of P (if b then k ∷ numbers p (suc k) l else numbers p (suc k) l) ≡ false → some_of P (numbers p (suc k) l) ≡ false
    rest true q = (or-false (P k) (some_of P (numbers p (suc k) l)) q).1
    rest false q = q

-- the first listed number is a place whose stream passes the test
found : (p : Stream → Bool) (k : ℕ) (l : List Stream) (q : ℕ) → head (numbers p k l) ≡ some q
    → (a : ℕ) × (q ≡ k + a) × (p (get_or l a closed) ≡ true)
found p k [] q h = let z : ◌≡◌ {A = ℕ} 0 1 = cc in absurd (omega arith)
found p k (x ∷ l) q h = go (p x) refl h (λ r. found p (suc k) l q r)
  where
    go : (b : Bool) → p x ≡ b → head (if b then k ∷ numbers p (suc k) l else numbers p (suc k) l) ≡ some q
        → (head (numbers p (suc k) l) ≡ some q → (a : ℕ) × (q ≡ suc k + a) × (p (get_or l a closed) ≡ true))
        → (a : ℕ) × (q ≡ k + a) × (p (get_or (x ∷ l) a closed) ≡ true)
    go true hx e rest = (0, (let z : k ≡ q = cc in omega arith), hx)
    go false hx e rest = let w = rest e in (suc w.0, (let z : q ≡ suc k + w.0 = w.1 in omega arith), w.2)

-- an id that is set and held by no other stream of the role
alone : (e : Streams) (s r i : ℕ) → held_elsewhere e s r i ≡ false → 0 < i → (a : ℕ) → stream_at e a ≡ bound r i → a ≡ s
unfolding held_elsewhere
alone e s r i h pos a ha =
    let set : not (eqb i 0) ≡ true = rw (ne_eqb i 0 (λ z. omega arith)) in
    let k = and-false (not (eqb i 0)) _ h set in
    let n = not-false (eqb (0 + a) s) (listed (λ (q : ℕ). not (eqb q s)) (holds r i) 0 e.streams refl k a (holds-bound r i (stream_at e a) ha)) in
    let m : 0 + a ≡ s = eqb-true (0 + a) s n in
    omega arith

-- ---- a stream that becomes unbound

unbind : (e : Streams) (s : ℕ) (x : Stream) → ((r i : ℕ) → x ≡ bound r i → ⊥) → SoundStreams e → SoundStreams (become e s x)
unbind e s x free ok = record {
  thirty_two = length-set e.streams s x ∙ ok.thirty_two;
  eight = ok.eight;
  once = λ r i a b pos p q. ok.once r i a b pos (old a r i p) (old b r i q);
  role = λ a r i p. ok.role a r i (old a r i p);
  below = λ a r i p. ok.below a r i (old a r i p);
}
  where
    old : (a r i : ℕ) → stream_at (become e s x) a ≡ bound r i → stream_at e a ≡ bound r i
    old a r i p = ⊎_elim (λ w. absurd (free r i (sym w.1 ∙ p))) (λ w. sym w ∙ p) (set_cases e.streams s a x closed)

-- ---- a stream that is bound

-- the mark after it
pub mark-binds : (e : Streams) (s : ℕ) (h : Head) (r : ℕ) → length e.marks ≡ 8 → h.role ≤ 7
    → mark_of (binds e s h) r ≡ max (mark_of e r) (if eqb h.role r then h.id else 0)
unfolding binds
mark-binds e s h r eight low = go (eqb h.role r) refl
  where
    go : (b : Bool) → eqb h.role r ≡ b
        → get_or (set e.marks h.role (max (mark_of e h.role) h.id)) r 0 ≡ max (mark_of e r) (if b then h.id else 0)
    go true q =
        let p : h.role ≡ r = eqb-true h.role r q in
        subst (λ (k : ℕ). get_or (set e.marks k (max (get_or e.marks k 0) h.id)) r 0 ≡ max (mark_of e r) h.id) (sym p)
        (get_or-set_same e.marks r (max (mark_of e r) h.id) 0 (omega arith))
    go false q =
        let d = get_or-set_other e.marks h.role r (max (mark_of e h.role) h.id) 0 (λ z. eqb-false h.role r q (sym z)) in
        omega (arith, d)

binds-sound : (e : Streams) (s : ℕ) (h : Head) → held_elsewhere e s h.role h.id ≡ false → h.role ≤ 7 → SoundStreams e
    → SoundStreams (binds e s h)
unfolding binds
binds-sound e s h free low ok = record {
  thirty_two = length-set e.streams s new ∙ ok.thirty_two;
  eight = length-set e.marks h.role _ ∙ ok.eight;
  once = once;
  role = λ a r i p. ⊎_elim (λ w. mine-role r i (sym w.1 ∙ p)) (λ w. ok.role a r i (sym w ∙ p)) (cases a);
  below = below;
}
  where
    new : Stream
    new = bound h.role h.id

    after : ℕ → Stream
    after a = get_or (set e.streams s new) a closed

    cases : (a : ℕ) → ((a ≡ s) × (after a ≡ new)) ⊎ (after a ≡ stream_at e a)
    cases a = set_cases e.streams s a new closed

    mine-role : (r i : ℕ) → bound h.role h.id ≡ bound r i → r ≤ 7
    mine-role r i p = let q : h.role ≡ r = cc in omega arith

    -- the new stream's id is nobody else's
    mine : (r i b : ℕ) → 0 < i → bound h.role h.id ≡ bound r i → stream_at e b ≡ bound r i → b ≡ s
    mine r i b pos p hb =
        let x : h.role ≡ r = cc in
        let y : h.id ≡ i = cc in
        alone e s r i (rw (x, y) at free) pos b hb

    once : (r i a b : ℕ) → 0 < i → after a ≡ bound r i → after b ≡ bound r i → a ≡ b
    once r i a b pos p q =
        ⊎_elim
        (λ u. ⊎_elim (λ v. u.0 ∙ sym v.0) (λ v. u.0 ∙ sym (mine r i b pos (sym u.1 ∙ p) (sym v ∙ q))) (cases b))
        (λ u. ⊎_elim (λ v. mine r i a pos (sym v.1 ∙ q) (sym u ∙ p) ∙ sym v.0) (λ v. ok.once r i a b pos (sym u ∙ p) (sym v ∙ q)) (cases b))
        (cases a)

    below : (a r i : ℕ) → after a ≡ bound r i → i ≤ mark_of (binds e s h) r
    below a r i p =
        let m = mark-binds e s h r ok.eight low in
        ⊎_elim (λ w. newest r i (sym w.1 ∙ p) m) (λ w. (let k = ok.below a r i (sym w ∙ p) in omega (arith, k, m))) (cases a)
      where
        newest : (r i : ℕ) → bound h.role h.id ≡ bound r i
            → mark_of (binds e s h) r ≡ max (mark_of e r) (if eqb h.role r then h.id else 0)
            → i ≤ mark_of (binds e s h) r
        newest r i q m =
            let x : h.role ≡ r = cc in
            let y : h.id ≡ i = cc in
            let z : mark_of (binds e s h) r ≡ max (mark_of e r) h.id = rw (eq-eqb h.role r x) at m in
            omega (arith, z)

-- ---- what an accepted ARBITRATE passed

passed : (device : ℕ) (e : Streams) (s : ℕ) (h : Head) → SoundStreams e → arbitrate_reason device e s h ≡ 0
    → (held_elsewhere e s h.role h.id ≡ false) × (h.role ≤ 7)
unfolding arbitrate_reason
passed device e s h ok q = go (stream_at e s) refl q
  where
    go : (x : Stream) → stream_at e s ≡ x → first (order_of device e s h x) ≡ 0 → (held_elsewhere e s h.role h.id ≡ false) × (h.role ≤ 7)
    go closed p z = let c = first-clear (order_of device e s h closed) refl z in absurd (false≢true (sym c.0))
    go unbound p z = let c = first-clear (order_of device e s h unbound) refl z in (c.1.1.0, ltb-false 7 h.role c.1.0)
    go (bound r i) p z =
        let c = first-clear (order_of device e s h (bound r i)) refl z in
        let d = or-false (not (eqb h.device device)) (not (eqb h.role r)) c.0 in
        let k : h.role ≡ r = eqb-true h.role r (not-false _ d.1) in
        let low : r ≤ 7 = ok.role s r i p in
        (rw k c.1.0, omega (arith, k, low))

-- ---- events keep streams and marks sound

module _ (P : Streams → Type 0) where
  choose : (b : Bool) (x y : Streams) → (b ≡ true → P x) → P y → P (if b then x else y)
  choose true x y h k = h refl
  choose false x y h k = k

pub open-sound : (e : Streams) (s : ℕ) → SoundStreams e → SoundStreams (open_stream e s).after
unfolding open_stream
open-sound e s ok = choose SoundStreams (eqb (open_reason e s) 0) _ _ (λ h. unbind e s unbound not-unbound ok) ok

pub close-sound : (e : Streams) (s : ℕ) → SoundStreams e → SoundStreams (close_stream e s).after
unfolding close_stream
close-sound e s ok = choose SoundStreams (eqb (close_reason e s) 0) _ _ (λ h. unbind e s closed not-closed ok) ok

pub arbitrate-sound : (device : ℕ) (e : Streams) (s : ℕ) (h : Head) → SoundStreams e → SoundStreams (arbitrate device e s h).after
unfolding arbitrate
arbitrate-sound device e s h ok =
    let r : ℕ = arbitrate_reason device e s h in
    choose SoundStreams (eqb r 0) _ _
    (λ q. (let w = passed device e s h ok (eqb-true r 0 q) in binds-sound e s h w.0 w.1 ok))
    (choose SoundStreams (between 5 9 r) _ _ (λ q. unbind e s closed not-closed ok) ok)

replicated : {A : Type 0} (n a : ℕ) (x : A) → get_or (replicate n x) a x ≡ x
replicated zero a x = refl
replicated (suc n) zero x = refl
replicated (suc n) (suc a) x = replicated n a x

pub none_open : (a : ℕ) → stream_at no_streams a ≡ closed
unfolding no_streams
none_open a = replicated 32 a closed

pub no-mark : (r : ℕ) → mark_of no_streams r ≡ 0
unfolding no_streams
no-mark r = replicated 8 r 0

pub fresh-sound : SoundStreams no_streams
unfolding no_streams
fresh-sound = record {
  thirty_two = refl;
  eight = refl;
  once = λ r i a b pos p q. absurd (not-closed r i (sym (none_open a) ∙ p));
  role = λ a r i p. absurd (not-closed r i (sym (none_open a) ∙ p));
  below = λ a r i p. absurd (not-closed r i (sym (none_open a) ∙ p));
}

-- ---- the mark after an event

pub open-mark : (e : Streams) (s r : ℕ) → mark_of (open_stream e s).after r ≡ mark_of e r
unfolding open_stream
open-mark e s r = choose (λ (x : Streams). mark_of x r ≡ mark_of e r) (eqb (open_reason e s) 0) _ _ (λ h. refl) refl

pub close-mark : (e : Streams) (s r : ℕ) → mark_of (close_stream e s).after r ≡ mark_of e r
unfolding close_stream
close-mark e s r = choose (λ (x : Streams). mark_of x r ≡ mark_of e r) (eqb (close_reason e s) 0) _ _ (λ h. refl) refl

-- it rises to an accepted id of the role, and a refused one leaves it
pub arbitrate-mark : (device : ℕ) (e : Streams) (s : ℕ) (h : Head) (r : ℕ) → SoundStreams e
    → mark_of (arbitrate device e s h).after r
    ≡ max (mark_of e r) (if eqb (arbitrate_reason device e s h) 0 then (if eqb h.role r then h.id else 0) else 0)
unfolding arbitrate
arbitrate-mark device e s h r ok = go (eqb reason 0) refl
  where
    reason : ℕ
    reason = arbitrate_reason device e s h

    go : (b : Bool) → eqb reason 0 ≡ b
        → mark_of (if b then binds e s h else if between 5 9 reason then become e s closed else e) r
        ≡ max (mark_of e r) (if b then (if eqb h.role r then h.id else 0) else 0)
    go true q = mark-binds e s h r ok.eight (passed device e s h ok (eqb-true reason 0 q)).1
    go false q =
        let k = choose (λ (x : Streams). mark_of x r ≡ mark_of e r) (between 5 9 reason) (become e s closed) e (λ h. refl) refl in
        omega (arith, k)

-- ---- a stream after an event

-- stored at one place
at_place : (l : List Stream) (s n : ℕ) (x : Stream) → length l ≡ 32 → n ≤ 31 → get_or (set l n x) s closed ≡ (if eqb s n then x else get_or l s closed)
at_place l s n x e h = go (eqb s n) refl
  where
    go : (b : Bool) → eqb s n ≡ b → get_or (set l n x) s closed ≡ (if b then x else get_or l s closed)
    go true q = rw (eqb-true s n q) (get_or-set_same l n x closed (omega arith))
    go false q = get_or-set_other l n s x closed (eqb-false s n q)

-- a place under a change that is made or not
changed : (e : Streams) (s n : ℕ) (x : Stream) (b : Bool) → length e.streams ≡ 32 → n ≤ 31
    → stream_at (if b then become e n x else e) s ≡ (if b && eqb s n then x else stream_at e s)
changed e s n x true l h = at_place e.streams s n x l h
changed e s n x false l h = refl

pub open-stream : (e : Streams) (s n : ℕ) → SoundStreams e → n ≤ 31
    → stream_at (open_stream e n).after s ≡ (if eqb (open_reason e n) 0 && eqb s n then unbound else stream_at e s)
unfolding open_stream
open-stream e s n ok h = changed e s n unbound (eqb (open_reason e n) 0) ok.thirty_two h

pub close-stream : (e : Streams) (s n : ℕ) → SoundStreams e → n ≤ 31
    → stream_at (close_stream e n).after s ≡ (if eqb (close_reason e n) 0 && eqb s n then closed else stream_at e s)
unfolding close_stream
close-stream e s n ok h = changed e s n closed (eqb (close_reason e n) 0) ok.thirty_two h

pub arbitrate-stream : (device : ℕ) (e : Streams) (s n : ℕ) (h : Head) → SoundStreams e → n ≤ 31
    → stream_at (arbitrate device e n h).after s
    ≡ (if eqb (arbitrate_reason device e n h) 0 && eqb s n then bound h.role h.id else
    if between 5 9 (arbitrate_reason device e n h) && eqb s n then closed else stream_at e s)
unfolding arbitrate binds
arbitrate-stream device e s n h ok low = go (eqb reason 0) refl
  where
    reason : ℕ
    reason = arbitrate_reason device e n h

    -- an accepted reason is none of 5 to 9
    go : (b : Bool) → eqb reason 0 ≡ b
        → stream_at (if b then binds e n h else if between 5 9 reason then become e n closed else e) s
        ≡ (if b && eqb s n then bound h.role h.id else if between 5 9 reason && eqb s n then closed else stream_at e s)
    go true q =
        at_place e.streams s n (bound h.role h.id) ok.thirty_two low
        ∙ ap (λ (x : Stream). if eqb s n then bound h.role h.id else x) (sym none-closed)
      where
        none-closed : (if between 5 9 reason && eqb s n then closed else stream_at e s) ≡ stream_at e s
        none-closed = rw (eqb-true reason 0 q)
    go false q = changed e s n closed (between 5 9 reason) ok.thirty_two low

-- ---- the primary

-- a primary's stream holds the mark
pub primary-holds : (e : Streams) (r p : ℕ) → primary e r ≡ some p → stream_at e p ≡ bound r (mark_of e r)
unfolding primary
primary-holds e r p h = go (eqb (mark_of e r) 0) h
  where
    go : (b : Bool) → (if b then none else head (numbers (holds r (mark_of e r)) 0 e.streams)) ≡ some p → stream_at e p ≡ bound r (mark_of e r)
    go true q = let z : ◌≡◌ {A = ℕ} 0 1 = cc in absurd (omega arith)
    go false q =
        let w = found (holds r (mark_of e r)) 0 e.streams p q in
        let z : p ≡ w.0 = (let y : p ≡ 0 + w.0 = w.1 in omega arith) in
        rw z (bound-holds r (mark_of e r) (stream_at e w.0) w.2)

-- what 10 asks: the id is set, is the mark, and a stream holds it
pub by-primary : (e : Streams) (role id : ℕ) → by_primary e role id ≡ true
    → (0 < id) × (id ≡ mark_of e role) × ((p : ℕ) × (stream_at e p ≡ bound role id))
unfolding by_primary
by-primary e role id h =
    let a = and-true (not (eqb id 0) && is_some (primary e role)) (eqb id (mark_of e role)) h in
    let b = and-true (not (eqb id 0)) (is_some (primary e role)) a.0 in
    let n : id ≡ 0 → ⊥ = eqb-false id 0 (not-true _ b.0) in
    let m : id ≡ mark_of e role = eqb-true id (mark_of e role) a.1 in
    (omega (arith, n), m, live (primary e role) refl b.1 m)
  where
    live : (q : Option ℕ) → primary e role ≡ q → is_some q ≡ true → id ≡ mark_of e role → (p : ℕ) × (stream_at e p ≡ bound role id)
    live none q t m = absurd (false≢true t)
    live (some p) q t m = (p, primary-holds e role p q ∙ ap (λ (i : ℕ). bound role i) (sym m))
