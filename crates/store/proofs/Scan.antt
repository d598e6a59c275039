-- What a walk over the entries of a store has left to do before entry i, and how one turn of it lessens that.
-- Assumes nothing.
use Rattle.std.specs.Prelude.{if◌then◌else◌, Option, Some, None}
use Rattle.std.specs.List.{list_any}
use Prim.Native.Nat.{ℕ, zero, suc, ◌+◌, ◌*◌, ◌-◌, ◌/◌, ◌≤◌, ◌<◌, min}
use native.Mathlib.Omega.{arith}
use native.Mathlib.Numerals.{add-one}
use mathlib.Core.Path.{◌≡◌, refl, sym, ap, ◌∙◌}
use mathlib.Core.Bool.{Bool, true, false}
use mathlib.Core.List.{List, [], ◌∷◌, ◌++◌}
use lib.Dec.{eqb, ltb}
use lib.ListN.{length, take, drop, get_or, length-take, length-drop, length-append, drop_of_length-le}
use lib.Seq.{take_at, take_all, drop_at, drop-cons, get_or-drop, get_or-take}
use borrow.Author.Tests.{ltb-true, ltb-false, eqb-false}
use Rattle.rules.specs.Bytes.{keep, concat, part}
use Rattle.rules.specs.Key.{key_of, has_key, short_key, same_key}
use Rattle.rules.specs.Update.{in_table, held as held_in}
use Rattle.rules.proofs.Tests.{or-false, ne_same}
use Rattle.rules.proofs.Lists.{part-part}
use Rattle.rules.proofs.Shortest.{part_length}
use Rattle.rules.proofs.InPlace.{key-compared}
use Rattle.buffers.specs.Word.{little_endian}
use Rattle.keys.specs.Rest.{short_rest, ProbeOf}
use Rattle.keys.proofs.Rest.{short-key, rest-length}
use Rattle.buffers.specs.Splice.{splice}
use Rattle.buffers.proofs.Written.{Written, written_none, written_next, written_same, written-length}
use Rattle.store.specs.Store.{place_from}

-- ---- the search for a key

-- a stored key that has another word where a probe looks is another key
pub probe-differs : (e t r : List ℕ) (at word : ℕ) → length t ≡ 4 → length r ≡ 144 → ProbeOf r at word
    → eqb (little_endian (part (4 + at) 8 e)) word ≡ false → has_key (short_key (t ++ r)) e ≡ false
probe-differs e t r at word l g o d = ne_same (λ z. eqb-false _ _ d (words z))
  where
    inside : at + 8 ≤ 144
    inside = o.inside

    words : key_of e ≡ short_key (t ++ r) → little_endian (part (4 + at) 8 e) ≡ word
    words z =
        let rest : part 4 144 (part 0 148 e) ≡ short_rest r =
        ap (part 4 144) (z ∙ short-key t r l g) ∙ ap (take 144) (drop_at t (short_rest r) 4 l)
        ∙ take_all 144 (short_rest r) (omega (arith, rest-length r g)) in
        ap little_endian
        (sym (part-part 4 144 at 8 e inside) ∙ ap (part at 8) (sym (part-part 0 148 4 144 e (omega arith)) ∙ rest)) ∙ sym o.there

-- and the comparison of a stored key says whether its entry has the key
pub key-said : (e t r : List ℕ) → length e ≡ 220 → length t ≡ 4 → length r ≡ 144
    → same_key (key_of e) (t ++ r) ≡ has_key (short_key (t ++ r)) e
key-said e t r h l g =
    let k : 148 ≤ length (t ++ r) = simp length-append (omega arith) in
    key-compared (key_of e) (t ++ r) (part_length 0 148 e (omega arith)) k

-- where none of several is found, each fails
pub none-any : (p : List ℕ → Bool) (es : List (List ℕ)) → list_any p es ≡ false → (k : ℕ) → k < length es → p (get_or es k []) ≡ false
none-any p [] n k h = absurd (omega arith)
none-any p (e ∷ es) n zero h = (or-false (p e) (list_any p es) n).0
none-any p (e ∷ es) n (suc k) h = none-any p es (or-false (p e) (list_any p es) n).1 k (omega arith)

-- entries passed over, and four more of which none is found
pub four-more : (p : List ℕ → Bool) (es : List (List ℕ)) (from i n : ℕ) → i + n ≤ length es → list_any p (take n (drop i es)) ≡ false
    → ((j : ℕ) → from ≤ j → j < i → p (get_or es j []) ≡ false) → (j : ℕ) → from ≤ j → j < i + n → p (get_or es j []) ≡ false
four-more p es from i n h none before j a b = go (ltb j i) refl
  where
    go : (t : Bool) → ltb j i ≡ t → p (get_or es j []) ≡ false
    go true e = before j a (ltb-true j i e)
    go false e =
        let past : i ≤ j = ltb-false j i e in
        let k : ℕ = j - i in
        let few : k < n = omega arith in
        let long : k < length (take n (drop i es)) = simp (length-take, length-drop) (omega arith) in
        let at : i + k ≡ j = omega arith in
        ap p (ap (λ (m : ℕ). get_or es m []) (sym at) ∙ sym (get_or-drop i es k []) ∙ sym (get_or-take n (drop i es) k [] few))
        ∙ none-any p (take n (drop i es)) none k long

module _ (es : List (List ℕ)) (k : List ℕ) where
  -- what searching the entries from i on finds
  abbrev pub searched : ℕ → Option ℕ
  searched i = place_from i k (drop i es)

  pub searched-next : (i : ℕ) (t : Bool) → i < length es → has_key k (get_or es i []) ≡ t
      → searched i ≡ (if t then Some i else searched (i + 1))
  unfolding place_from
  searched-next i t h e = rw (drop-cons es i [] h, e, add-one i)

  -- entries without the key are passed over
  pub searched-skip : (i n : ℕ) → i + n ≤ length es → ((j : ℕ) → i ≤ j → j < i + n → has_key k (get_or es j []) ≡ false)
      → searched i ≡ searched (i + n)
  searched-skip i zero h apart = let e : i + 0 ≡ i = omega arith in rw e
  searched-skip i (suc n) h apart =
      let e : i + 1 + n ≡ i + suc n = omega arith in
      searched-next i false (omega arith) (apart i (omega arith) (omega arith))
      ∙ searched-skip (i + 1) n (omega arith) (λ j a b. apart j (omega arith) (omega arith)) ∙ ap searched e

  pub searched-none : (i : ℕ) → length es ≤ i → searched i ≡ None
  unfolding place_from
  searched-none i h = rw (drop_of_length-le es {i = i} h)

-- ---- the entries of a table

module _ (table : ℕ) (es : List (List ℕ)) where
  -- those from i on
  abbrev pub left : ℕ → List (List ℕ)
  left i = keep (in_table table) (drop i es)

  pub left-hit : (i : ℕ) → i < length es → in_table table (get_or es i []) ≡ true → left i ≡ get_or es i [] ∷ left (i + 1)
  left-hit i h e = rw (drop-cons es i [] h, e, add-one i)

  pub left-miss : (i : ℕ) → i < length es → in_table table (get_or es i []) ≡ false → left i ≡ left (i + 1)
  left-miss i h n = rw (drop-cons es i [] h, n, add-one i)

  pub left-none : (i : ℕ) → length es ≤ i → left i ≡ []
  left-none i h = ap (keep (in_table table)) (drop_of_length-le es {i = i} h)

  pub held-left : held_in table (record { entries = es }) ≡ 0 + length (left 0)
  unfolding held_in
  held-left = omega arith

-- Before entry i, `after` is `before` with the n entries of the table that come before it written to its start.
pub record Gathered (table : ℕ) (es : List (List ℕ)) (before after : List ℕ) (n i : ℕ) : Type 0 where
  pub few : n ≤ i
  pub room : 220 * n ≤ length before
  pub total : held_in table (record { entries = es }) ≡ n + length (left table es i)
  pub written : Written 220 (left table es 0) before (left table es i) after n

-- the first n are written: all of the table, or as many as there is room for
abbrev Given : ℕ → List (List ℕ) → List ℕ → List ℕ → ℕ → Type 0
Given table es before after n =
    (n ≡ min (held_in table (record { entries = es })) (length before / 220)) × (after ≡ splice before 0 (concat (take n (left table es 0))))

pub gather-start : (table : ℕ) (es : List (List ℕ)) (before : List ℕ) → Gathered table es before before 0 0
gather-start table es before = record {
  few = omega arith;
  room = omega arith;
  total = held-left table es;
  written = written_none 220 (left table es 0) before;
}

module _ {table : ℕ} {es : List (List ℕ)} {before after : List ℕ} {n i : ℕ} (g : Gathered table es before after n i) where
  pub gather-long : length after ≡ length before
  gather-long = written-length g.written g.room

  pub gather-miss : {after' : List ℕ} {n' : ℕ} → i < length es → in_table table (get_or es i []) ≡ false → after' ≡ after → n' ≡ n
      → Gathered table es before after' n' (i + 1)
  gather-miss h d o m =
      let e : left table es i ≡ left table es (i + 1) = left-miss table es i h d in
      record {
        few = omega (arith, g.few);
        room = omega (arith, g.room);
        total = omega (arith, g.total, ap length e);
        written = written_same g.written e o m;
      }

  -- one entry of the table more, at entry i
  more : i < length es → in_table table (get_or es i []) ≡ true → held_in table (record { entries = es }) ≡ n + 1 + length (left table es (i + 1))
  more h e = omega (arith, g.total, ap length (left-hit table es i h e))

  pub gather-hit : {after' : List ℕ} {n' : ℕ} → i < length es → length (get_or es i []) ≡ 220 → in_table table (get_or es i []) ≡ true
      → 220 * n + 220 ≤ length before → after' ≡ splice after (220 * n) (get_or es i []) → n' ≡ n + 1
      → Gathered table es before after' n' (i + 1)
  gather-hit h z e r o m = record {
    few = omega (arith, g.few);
    room = omega arith;
    total = omega (arith, more h e);
    written = written_next g.written (left-hit table es i h e) z g.room o m;
  }

  given : n ≡ min (held_in table (record { entries = es })) (length before / 220) → Given table es before after n
  given c =
      let w = g.written in
      let e : take n (left table es 0) ≡ w.done = ap (take n) w.split ∙ take_at w.done (left table es i) n (sym w.count) in
      (c, w.bytes ∙ ap (λ (l : List (List ℕ)). splice before 0 (concat l)) (sym e))

  -- an entry for which there is no room
  pub gather-full : i < length es → in_table table (get_or es i []) ≡ true → length before < 220 * n + 220 → Given table es before after n
  gather-full h e r = given (omega (arith, g.room, more h e))

  pub gather-end : length es ≤ i → Given table es before after n
  gather-end h = given (omega (arith, g.room, g.total, ap length (left-none table es i h)))
