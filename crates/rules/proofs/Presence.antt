-- The list that `present` computes is the one that document 01's sentences on presence describe: each effect more keeps the
-- description true, and two lists so described are equal, because the order of the latest INSERTs cannot run both ways.
-- Assumes nothing.
use Rattle.std.specs.Prelude.{if◌then◌else◌}
use Prim.Native.Nat.{ℕ}
use mathlib.Core.Path.{◌≡◌, refl, sym, ◌∙◌, ap, subst}
use mathlib.Core.Bool.{Bool, true, false, not, true≢false, false≢true}
use mathlib.Core.Logic.{◌⊎◌, inl, inr, ⊎_elim, ◌↔◌}
use mathlib.Core.List.{List, [], ◌∷◌, ◌++◌, map, append_assoc}
use lib.Dec.{eqb}
use lib.ListN.{length}
use borrow.Author.Tests.{eqb-true, not-true}
use Rattle.rules.specs.Bytes.{some_of, same}
use Rattle.rules.specs.Frame.{Update, Command, too_short, malformed, OPEN, CLOSE, ARBITRATE}
use Rattle.rules.specs.Frame.{CONFIGURE, WRITE, READ, on_streams, on_pipeline, on_tables}
use Rattle.rules.specs.Key.{key_of, has_key, short_key}
use Rattle.rules.specs.Entry.{short_entry}
use Rattle.rules.specs.Update.{stored, judge, judge_by}
use Rattle.rules.specs.Call.{Call, accepted}
use Rattle.rules.specs.LookBack.{Effect, inserted, modified, deleted, cleared, revise, present, History, nothing, state_seen, effect_of}
use Rattle.rules.specs.LookBack.{reason_at, succeeds, with_update, with_updates, rolls_back, with_batch, effects_with, with_call, look_back}
use Rattle.rules.specs.Agreement.{commands_of, history_of}
use Rattle.rules.specs.Presence.{inserts_key, sets_key, sets_entry, removes_key, Since, Present, Before, In, Ordered, Describes}
use Rattle.rules.proofs.Tests.{contradiction, and-false, same_true, same_refl, same-sym, eq-same}
use Rattle.rules.proofs.Orders.{first-clear}
use Rattle.rules.proofs.Formed.{Whole, Formed, EveryFormed, calls-formed}
use Rattle.rules.proofs.Shortest.{key-of-short}
use Rattle.rules.proofs.Members.{or-first, some_back, some-front, none_more, none-less, crossed, in-none, in-snoc, snoc-in, in_map}
use Rattle.rules.proofs.Members.{map-in, in-keep, keep-in, ordered-imp, ordered-snoc, ordered-map, ordered-keep, ordered-equal}
use Rattle.rules.proofs.Effects.{take_effect, present-snoc, key-revise}

-- ---- places in the past

module _ {such those : Effect → Bool} where
  since-some : (E : List Effect) → Since such those E → some_of such E ≡ true
  since-some E s = rw s.place (some_back such s.before _ (rw s.this))

  -- the same place, its effect seen in another way
  since-as : (other : Effect → Bool) (E : List Effect) (s : Since such those E) → other s.effect ≡ true → Since other those E
  since-as other E s h =
      record { before = s.before; effect = s.effect; after = s.after; place = s.place; this = h; none-later = s.none-later }

  -- one effect more in front
  since-later : (f : Effect) (E : List Effect) → Since such those E → Since such those (f ∷ E)
  since-later f E s = record {
    before = f ∷ s.before;
    effect = s.effect;
    after = s.after;
    place = ap (λ l. f ∷ l) s.place;
    this = s.this;
    none-later = s.none-later;
  }

  -- one effect more at the end: it is such an effect, or none of those
  since-last : (E : List Effect) (f : Effect) → such f ≡ true → Since such those (E ++ (f ∷ []))
  since-last E f h = record { before = E; effect = f; after = []; place = refl; this = h; none-later = refl }

  since-more : (E : List Effect) (f : Effect) → those f ≡ false → Since such those E → Since such those (E ++ (f ∷ []))
  since-more E f n s = record {
    before = s.before;
    effect = s.effect;
    after = s.after ++ (f ∷ []);
    place = ap (λ l. l ++ (f ∷ [])) s.place ∙ append_assoc s.before _ _;
    this = s.this;
    none-later = none_more those s.after f s.none-later n;
  }

  since-snoc : (E : List Effect) (f : Effect) → Since such those (E ++ (f ∷ []))
      → (such f ≡ true) ⊎ ((those f ≡ false) × Since such those E)
  since-snoc E f s = go E s.before s.place
    where
      go : (E before : List Effect) → E ++ (f ∷ []) ≡ before ++ s.effect ∷ s.after
          → (such f ≡ true) ⊎ ((those f ≡ false) × Since such those E)
      go [] before p = inl (or-first (such f) false (ap (some_of such) p ∙ some_back such before _ (rw s.this)) refl)
      go (x ∷ E) [] p =
          let q : x ≡ s.effect = cc in
          let r : E ++ (f ∷ []) ≡ s.after = cc in
          let n = none-less those E f (ap (some_of those) r ∙ s.none-later) in
          inr (n.1, record { before = []; effect = x; after = E; place = refl; this = ap such q ∙ s.this; none-later = n.0 })
      go (x ∷ E) (b ∷ before) p = ⊎_elim (λ h. inl h) (λ h. inr (h.0, since-later x E h.1)) (go E before (cc))

-- the last of such effects
last : (p : Effect → Bool) (E : List Effect) → some_of p E ≡ true → Since p p E
last p [] h = absurd (false≢true h)
last p (f ∷ E) h = go (some_of p E) refl (λ t. last p E t)
  where
    go : (b : Bool) → some_of p E ≡ b → (some_of p E ≡ true → Since p p E) → Since p p (f ∷ E)
    go true t ih = since-later f E (ih t)
    go false t ih = record { before = []; effect = f; after = E; place = refl; this = or-first (p f) _ h t; none-later = t }

-- ---- the order of the latest INSERTs

before_of : (E : List Effect) (k j : List ℕ) (s : Since (inserts_key k) (inserts_key k) E)
    → some_of (inserts_key j) s.after ≡ true → Before E k j
before_of E k j s h = record {
  start = s.before;
  first = s.effect;
  rest = s.after;
  place = s.place;
  this = s.this;
  none-later = s.none-later;
  other = last (inserts_key j) s.after h;
}

before_more : (E : List Effect) (f : Effect) (k j : List ℕ) → inserts_key k f ≡ false → Before E k j → Before (E ++ (f ∷ [])) k j
unfolding since-more
before_more E f k j n b =
    let s : Since (inserts_key k) (inserts_key k) E = record {
      before = b.start;
      effect = b.first;
      after = b.rest;
      place = b.place;
      this = b.this;
      none-later = b.none-later;
    } in
    before_of _ k j (since-more E f n s) (some-front (inserts_key j) b.rest _ (since-some b.rest b.other))

before_last : (E : List Effect) (f : Effect) (k j : List ℕ) → inserts_key k f ≡ false → inserts_key j f ≡ true
    → some_of (inserts_key k) E ≡ true → Before (E ++ (f ∷ [])) k j
unfolding since-more
before_last E f k j n h t =
    let s = last (inserts_key k) E t in
    before_of _ k j (since-more E f n s) (some_back (inserts_key j) s.after (f ∷ []) (rw h))

before-asym : (E : List Effect) (k j : List ℕ) → Before E k j → Before E j k → ⊥
before-asym E k j b c =
    crossed (inserts_key k) (inserts_key j) b.start b.first b.rest c.start c.first c.rest
    (sym b.place ∙ c.place)
    b.none-later (since-some b.rest b.other) c.none-later (since-some c.rest c.other)

-- ---- presence after one effect more

inserts-sets : (k : List ℕ) (f : Effect) → inserts_key k f ≡ true → sets_key k f ≡ true
inserts-sets k (inserted x) h = h
inserts-sets k (modified x) h = absurd (false≢true h)
inserts-sets k (deleted j) h = absurd (false≢true h)
inserts-sets k cleared h = absurd (false≢true h)

-- what an INSERT or MODIFY of a key gives
gives : (k : List ℕ) (f : Effect) → sets_key k f ≡ true → (e : List ℕ) × (key_of e ≡ k) × (sets_entry e f ≡ true)
gives k (inserted x) h = (x, same_true (key_of x) k h, same_refl x)
gives k (modified x) h = (x, same_true (key_of x) k h, same_refl x)
gives k (deleted j) h = absurd (false≢true h)
gives k cleared h = absurd (false≢true h)

-- an INSERT of the key took effect and nothing took the key away since
abbrev Stays : List Effect → List ℕ → Type 0
Stays E k = Since (inserts_key k) (removes_key k) E

-- such a key has an entry: what the latest INSERT or MODIFY of it gave
held : (E : List Effect) (k : List ℕ) → Stays E k → (e : List ℕ) × (key_of e ≡ k) × Present E e
held E k s =
    let l = last (sets_key k) E (since-some E (since-as (sets_key k) E s (inserts-sets k s.effect s.this))) in
    let g = gives k l.effect l.this in
    let set = since-as (sets_entry g.0) E l g.2 in
    (g.0, g.1, record { inserting = rw g.1 s; setting = rw g.1 set })

-- an effect that neither sets nor removes an entry's key leaves the entry
present-more : (E : List Effect) (f : Effect) (e : List ℕ) → sets_key (key_of e) f ≡ false → removes_key (key_of e) f ≡ false
    → Present E e → Present (E ++ (f ∷ [])) e
present-more E f e s r p = record { inserting = since-more E f r p.inserting; setting = since-more E f s p.setting }

-- the effect gives an entry whose key it inserts or which stays, or it leaves the entry
abbrev GivesOrLeaves : List Effect → Effect → List ℕ → Type 0
GivesOrLeaves E f e =
    ((sets_entry e f ≡ true) × ((inserts_key (key_of e) f ≡ true) ⊎ Stays E (key_of e)))
    ⊎ ((sets_key (key_of e) f ≡ false) × (removes_key (key_of e) f ≡ false) × Present E e)

present-less : (E : List Effect) (f : Effect) (e : List ℕ) → Present (E ++ (f ∷ [])) e → GivesOrLeaves E f e
present-less E f e p = go (since-snoc E f p.setting) (since-snoc E f p.inserting)
  where
    go : (sets_entry e f ≡ true) ⊎ ((sets_key (key_of e) f ≡ false) × Since (sets_entry e) (sets_key (key_of e)) E)
        → (inserts_key (key_of e) f ≡ true) ⊎ ((removes_key (key_of e) f ≡ false) × Stays E (key_of e)) → GivesOrLeaves E f e
    go (inl s) (inl i) = inl (s, inl i)
    go (inl s) (inr i) = inl (s, inr i.1)
    go (inr s) (inl i) = contradiction (inserts-sets (key_of e) f i) s.0
    go (inr s) (inr i) = inr (s.0, i.0, record { inserting = i.1; setting = s.1 })

-- ---- one effect more keeps the description

-- an effect inserts no key that has an entry
abbrev Allowed : List (List ℕ) → Effect → Type 0
Allowed es f = (e : List ℕ) → In e es → inserts_key (key_of e) f ≡ false

members_step : (E : List Effect) (es : List (List ℕ)) (f : Effect) → ((e : List ℕ) → In e es ↔ Present E e) → Allowed es f
    → (e : List ℕ) → In e (take_effect f es) ↔ Present (E ++ (f ∷ [])) e
unfolding take_effect revise
members_step E es (inserted x) m a e = (
  λ i. ⊎_elim (λ h. present-more E f e (a e h) refl ((m e).0 h)) (λ q. rw q new) (in-snoc es x e i),
  λ p. snoc-in es x e (⊎_elim (λ h. inr (sym (same_true x e h.0))) (λ h. inl ((m e).1 h.2)) (present-less E f e p)),
)
  where
    f : Effect
    f = inserted x

    new : Present (E ++ (f ∷ [])) x
    new = record { inserting = since-last E f (same_refl (key_of x)); setting = since-last E f (same_refl x) }
members_step E es (modified x) m a e = (
  λ i. let h = in_map (revise f) es e i in rw h.2 (there h.0 ((m h.0).0 h.1) _ refl),
  λ p. back (present-less E f e p),
)
  where
    f : Effect
    f = modified x

    there : (y : List ℕ) → Present E y → (b : Bool) → same (key_of x) (key_of y) ≡ b → Present (E ++ (f ∷ [])) (if b then x else y)
    there y p true t =
        let s : Stays E (key_of x) = rw (same_true (key_of x) (key_of y) t) p.inserting in
        record { inserting = since-more E f refl s; setting = since-last E f (same_refl x) }
    there y p false t = present-more E f y t refl p

    back : GivesOrLeaves E (modified x) e → In e (map (revise f) es)
    back (inl (t, inl n)) = absurd (false≢true n)
    back (inl (t, inr s)) =
        let h = held E (key_of e) s in
        let q = same_true x e t in
        let r : same (key_of x) (key_of h.0) ≡ true = eq-same {a = key_of x} (ap key_of q ∙ sym h.1) in
        map-in (revise f) es h.0 e ((m h.0).1 h.2) (rw r q)
    back (inr (t, r, p)) = map-in (revise f) es e e ((m e).1 p) (rw t)
members_step E es (deleted k) m a e = (
  λ i. let h = in-keep _ es e i in present-more E f e refl (not-true _ h.1) ((m e).0 h.0),
  λ p. ⊎_elim (λ h. absurd (false≢true h.0)) (λ h. keep-in _ es e ((m e).1 h.2) (ap not h.1)) (present-less E f e p),
)
  where
    f : Effect
    f = deleted k
members_step E es cleared m a e = (
  λ i. absurd i,
  λ p. ⊎_elim (λ h. absurd (false≢true h.0)) (λ h. absurd (true≢false h.1)) (present-less E cleared e p),
)

-- what has the members and the order has each key once
describes : (E : List Effect) (l : List (List ℕ)) → ((e : List ℕ) → In e l ↔ Present E e)
    → Ordered (λ (x y : List ℕ). Before E (key_of x) (key_of y)) l → Describes E l
describes E l m o = record {
  members = m;
  once = ordered-imp _ _ l (λ x y i b q. let c = subst (Before E (key_of x)) (sym q) b in before-asym E (key_of x) (key_of x) c c) o;
  order = o;
}

describes-step : (E : List Effect) (es : List (List ℕ)) (f : Effect) → Describes E es → Allowed es f
    → Describes (E ++ (f ∷ [])) (take_effect f es)
unfolding take_effect revise
describes-step E es f d a = describes (E ++ (f ∷ [])) (take_effect f es) (members_step E es f d.members a) (order f a)
  where
    R : Effect → List ℕ → List ℕ → Type 0
    R f x y = Before (E ++ (f ∷ [])) (key_of x) (key_of y)

    kept : (f : Effect) → Allowed es f → Ordered (λ (x y : List ℕ). R f (revise f x) (revise f y)) es
    kept f a =
        ordered-imp _ _ es
        (λ x y i b. rw (key-revise f x, key-revise f y) (before_more E f (key_of x) (key_of y) (a x i) b)) d.order

    known : (y : List ℕ) → In y es → some_of (inserts_key (key_of y)) E ≡ true
    known y i = since-some E ((d.members y).0 i).inserting

    order : (f : Effect) → Allowed es f → Ordered (R f) (take_effect f es)
    order (inserted x) a =
        ordered-snoc (R (inserted x)) es x (kept (inserted x) a)
        (λ y i. before_last E (inserted x) (key_of y) (key_of x) (a y i) (same_refl (key_of x)) (known y i))
    order (modified x) a = ordered-map (R (modified x)) (revise (modified x)) es (kept (modified x) a)
    order (deleted k) a = ordered-keep (R (deleted k)) _ es (kept (deleted k) a)
    order cleared a = tt

-- ---- every list of commands

-- what the past computes, described
abbrev pub Described : List Effect → Type 0
Described E = Describes E (present E)

nothing-described : Described []
unfolding present
nothing-described = describes [] [] (λ e. (λ i. absurd i, λ p. absurd (false≢true (since-some [] p.inserting)))) tt

described-more : (E : List Effect) (f : Effect) → Described E → Allowed (present E) f → Described (E ++ (f ∷ []))
described-more E f d a = rw (present-snoc E f) (describes-step E (present E) f d a)

-- an INSERT takes effect only where 20 does not hold
allowed : (p : History) (role : ℕ) (u : Update) → length u.entry ≡ 220 → reason_at p role u ≡ 0
    → Allowed (present p.effects) (effect_of u)
unfolding reason_at judge judge_by stored state_seen
allowed p role u k e = go (eqb u.type 1) (eqb u.type 2) refl
  where
    x : List ℕ
    x = short_entry u.entry

    go : (b c : Bool) → eqb u.type 1 ≡ b
        → Allowed (present p.effects) (if b then inserted x else if c then modified x else deleted (short_key u.entry))
    go true c t y i =
        let free = and-false _ _ (first-clear _ refl e).1.1.1.1.1.1.0 t in
        same-sym (key_of x) (key_of y) ∙ in-none (has_key (key_of x)) (present p.effects) y i (rw (key-of-short u.entry k) free)
    go false true t y i = refl
    go false false t y i = refl

noted-update : (p : History) (role : ℕ) (u : Update) → length u.entry ≡ 220
    → Described p.effects → Described (with_update p role u).effects
unfolding with_update succeeds
noted-update p role u k d = go (eqb (reason_at p role u) 0) refl
  where
    go : (b : Bool) → eqb (reason_at p role u) 0 ≡ b → Described (if b then p.effects ++ (effect_of u ∷ []) else p.effects)
    go true t = described-more p.effects (effect_of u) d (allowed p role u k (eqb-true _ _ t))
    go false t = d

noted-updates : (p : History) (role : ℕ) (us : List Update) → Whole us → Described p.effects
    → Described (with_updates p role us).effects
unfolding with_updates
noted-updates p role [] k d = d
noted-updates p role (u ∷ us) k d = noted-updates (with_update p role u) role us k.1 (noted-update p role u k.0 d)

noted-batch : (p : History) (role atomicity : ℕ) (us : List Update) → Whole us → Described p.effects
    → Described (with_batch p role atomicity us).effects
unfolding with_batch
noted-batch p role atomicity us k d = go (rolls_back p role atomicity us)
  where
    go : (b : Bool) → Described (if b then p else with_updates p role us).effects
    go true = d
    go false = noted-updates p role us k d

noted_call : (p : History) (c : Command) → Formed c → Described p.effects → Described (effects_with p c)
unfolding effects_with
noted_call p too_short k d = d
noted_call p malformed k d = d
noted_call p (on_streams (OPEN n)) k d = d
noted_call p (on_streams (CLOSE n)) k d = d
noted_call p (on_streams (ARBITRATE n h)) k d = d
noted_call p (on_pipeline (CONFIGURE h rows)) k d = described-more p.effects cleared d (λ e i. refl)
noted_call p (on_tables (WRITE h atomicity us)) k d = noted-batch p h.role atomicity us k.1 d
noted_call p (on_tables (READ q)) k d = d

noted-calls : (p : History) (cs : List Command) → EveryFormed cs → Described p.effects → Described (look_back p cs).effects
unfolding look_back with_call
noted-calls p [] k d = d
noted-calls p (c ∷ cs) k d = noted-calls (with_call p c) cs k.1 (go (accepted (state_seen p) c))
  where
    go : (b : Bool) → Described (if b then effects_with p c else p.effects)
    go true = noted_call p c k.0 d
    go false = d

-- After every list of calls the list that looking back computes is one that document 01 describes,
pub presence : (room device : ℕ) (before : List Call) → Described (history_of room device before).effects
unfolding history_of nothing
presence room device before = noted-calls (nothing device) (commands_of room before) (calls-formed room before) nothing-described

-- and there is no other.
pub described-once : (effects : List Effect) (l m : List (List ℕ)) → Describes effects l → Describes effects m → l ≡ m
described-once E l m c d =
    ordered-equal (λ (x y : List ℕ). Before E (key_of x) (key_of y)) (λ x y. before-asym E (key_of x) (key_of y)) l m
    (λ e. (λ i. (d.members e).1 ((c.members e).0 i), λ i. (c.members e).1 ((d.members e).0 i))) c.order d.order
