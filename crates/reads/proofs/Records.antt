-- What a READ writes: the entries of the rows asked for, one row after another, or the one entry of a key. Right because the
-- rows are walked in order, and because keys are distinct. Assumes nothing.
use Prim.Native.Nat.{ℕ, zero, suc, ◌+◌, ◌*◌, ◌-◌, ◌/◌, ◌≤◌, ◌<◌, min}
use native.Mathlib.Nat.{eq-or-lt_of_le}
use native.Mathlib.Omega.{arith}
use mathlib.Core.Path.{◌≡◌, refl, sym, ap, ◌∙◌}
use mathlib.Core.Bool.{true, false}
use mathlib.Core.List.{List, [], ◌∷◌, ◌++◌, append-nil, map}
use mathlib.Core.Logic.{◌⊎◌, inl, inr, ⊎_elim}
use Rattle.std.specs.Prelude.{Some, None}
use lib.ListN.{length, take, drop, get_or, length-append, length-drop}
use lib.Seq.{take-add, take-append-le, drop-drop, drop_at, drop-cons}
use Rattle.std.proofs.lemmas.List.{drop_all}
use native.Mathlib.Numerals.{add-one}
use borrow.Rule.Slice.PartMut.{put_mid}
use Rattle.rules.specs.Bytes.{keep, concat, part, int}
use Rattle.rules.specs.Key.{has_key}
use Rattle.rules.specs.Update.{in_table, held}
use Rattle.rules.specs.Call.{asked, gathered}
use Rattle.rules.proofs.Lists.{concat-append}
use Rattle.rules.proofs.Formed.{EveryLength, parts-lengths}
use Rattle.rules.proofs.Sizes.{keep-lengths}
use Rattle.buffers.specs.Splice.{splice}
use Rattle.buffers.proofs.Splice.{splice-none, splice-next, length-splice, length-window, part-copied}
use Rattle.rows.specs.declared.Row.{Row as Held}
use Rattle.rows.specs.Meaning.{row_of}
use Rattle.rules.specs.Sound.{Distinct}
use Rattle.store.specs.Store.{place}
use Rattle.store.proofs.KeyPlace.{keep-place, keep-absent}
use Rattle.reads.specs.Read.{Reads}

-- ---- the entry of a key

module _ (es : List (List ℕ)) (k before : List ℕ) where
  pub none_read : None ≡ place k es → Reads (keep (has_key k) es) before before 0
  none_read p = rw (keep-absent k es (sym p)) (omega arith, splice-none before 0)

  pub one-read : (i : ℕ) (after : List ℕ) → Some i ≡ place k es → 220 ≤ length before
      → after ≡ splice before 0 (get_or es i []) → Distinct es → Reads (keep (has_key k) es) before after 1
  one-read i after p l a d = rw (keep-place k es i d (sym p)) (omega arith, rw append-nil a)

-- ---- the entries of the rows asked for

-- what is so long at each place is so long throughout
pub every_long : (n : ℕ) (xs : List (List ℕ)) → ((i : ℕ) → i < length xs → length (get_or xs i []) ≡ n) → EveryLength n xs
every_long n [] h = tt
every_long n (x ∷ xs) h = (h 0 (omega arith), every_long n xs (λ i l. h (suc i) (omega arith)))

-- the first r of records of 220 bytes
first-length : (r : ℕ) (xs : List (List ℕ)) → EveryLength 220 xs → r ≤ length xs → length (concat (take r xs)) ≡ 220 * r
first-length zero xs w h = omega arith
first-length (suc r) [] w h = absurd (omega arith)
first-length (suc r) (x ∷ xs) w h =
    omega (arith, length-append x (concat (take r xs)), first-length r xs w.1 (omega arith), w.0)

-- Of all the records the first n are written to the start of `before`, which gives `after`; those that are left are the next, or
-- there is no room for one more.
pub record ReadSoFar (all left : List (List ℕ)) (before after : List ℕ) (n : ℕ) : Type 0 where
  pub room : 220 * n ≤ length before
  pub long : length after ≡ length before
  pub few : n ≤ length all
  pub size : length (concat (take n all)) ≡ 220 * n
  pub bytes : after ≡ splice before 0 (concat (take n all))
  pub next : (drop n all ≡ left) ⊎ (length before < 220 * n + 220)

pub reading-start : (all : List (List ℕ)) (before : List ℕ) → ReadSoFar all all before before 0
reading-start all before = record {
  room = omega arith;
  long = refl;
  few = omega arith;
  size = omega arith;
  bytes = splice-none before 0;
  next = inl refl;
}

module _ {all left : List (List ℕ)} {before after : List ℕ} {n : ℕ} (g : ReadSoFar all left before after n) where
  pub reading-end : left ≡ [] → Reads all before after n
  reading-end e = (
    ⊎_elim (λ d. omega (arith, g.room, g.few, ap length (d ∙ e), length-drop n all)) (λ f. omega (arith, g.room, g.few)) g.next,
    g.bytes,
  )

  -- the first r of the next records, all of them or as many as there is room for
  reading-next : (xs more : List (List ℕ)) (r : ℕ) → left ≡ xs ++ more → EveryLength 220 xs
      → r ≡ min (length xs) ((length before - 220 * n) / 220)
      → ReadSoFar all more before (splice after (220 * n) (concat (take r xs))) (n + r)
  reading-next xs more r e w m =
      let ys : List (List ℕ) = take r xs in
      let y : length (concat ys) ≡ 220 * r = first-length r xs w (omega arith) in
      let same : take r (drop n all) ≡ ys = ⊎_elim
      (λ d. ap (take r) (d ∙ e) ∙ take-append-le r xs more (omega arith))
      (λ f. let z : r ≡ 0 = omega (arith, f) in rw z) g.next in
      let front : take (n + r) all ≡ take n all ++ ys = take-add n r all ∙ ap (λ (l : List (List ℕ)). take n all ++ l) same in
      let joined : concat (take (n + r) all) ≡ concat (take n all) ++ concat ys = ap concat front ∙ concat-append (take n all) ys in
      record {
        room = omega (arith, g.room);
        long = length-splice after (220 * n) (concat ys) (omega (arith, g.room, g.long)) ∙ g.long;
        few = ⊎_elim
            (λ d. omega (arith, g.few, ap length (d ∙ e), length-drop n all, length-append xs more))
            (λ f. omega (arith, g.few, g.room)) g.next;
        size = omega (arith, g.size, ap length joined, length-append (concat (take n all)) (concat ys));
        bytes =
            ap (λ (x : List ℕ). splice x (220 * n) (concat ys)) g.bytes
            ∙ splice-next before 0 (220 * n) (concat (take n all)) (concat ys) (omega (arith, g.size)) g.room
            ∙ ap (splice before 0) (sym joined);
        next = ⊎_elim
            (λ d. ⊎_elim
            (λ q. inl (sym (drop-drop r n all) ∙ ap (drop r) (d ∙ e) ∙ drop_at xs more r (sym q)))
            (λ q. inr (omega (arith, g.room)))
            (eq-or-lt_of_le {n = r} {m = length xs} (omega arith)))
            (λ f. inr (omega (arith, f)))
            g.next;
      }

  -- the entries of a table, gathered into what is left of `after`, which comes back as p
  pub reading-gather : (table : ℕ) (es : List (List ℕ)) (more : List (List ℕ)) (p : List ℕ) (r : ℕ) →
      let lent : List ℕ = take (length after - 220 * n) (drop (220 * n) after) in
      let xs : List (List ℕ) = keep (in_table table) es in
      left ≡ xs ++ more → EveryLength 220 es
      → r ≡ min (held table (record { entries = es })) (length lent / 220) → p ≡ splice lent 0 (concat (take r xs))
      → ReadSoFar all more before (put_mid (220 * n) (length after - 220 * n) after p) (n + r)
  unfolding held
  reading-gather table es more p r e h number bytes =
      let at : ℕ = 220 * n in
      let k : ℕ = length after - at in
      let xs : List (List ℕ) = keep (in_table table) es in
      let l : length after ≡ length before = g.long in
      let o : at ≤ length before = g.room in
      let lent : length (take k (drop at after)) ≡ k = length-window at k after (omega arith) in
      let w : EveryLength 220 xs = keep-lengths 220 (in_table table) es h in
      let y : length (concat (take r xs)) ≡ 220 * r = first-length r xs w (omega arith) in
      rw (part-copied after p (concat (take r xs)) at k bytes (omega arith) (omega arith))
      (reading-next xs more r e w (rw (lent, l) at number))

-- what is left of a READ before the row at i of the rows in force
module _ (role table : ℕ) (rows : List Held) (es : List (List ℕ)) where
  abbrev pub unread : ℕ → List (List ℕ)
  unread i = gathered role table (map row_of (drop i rows)) (record { entries = es })

  module _ (i : ℕ) (d : Held) (h : i < length rows) where
    pub unread-hit : asked role table (row_of (get_or rows i d)) ≡ true
        → unread i ≡ keep (in_table (row_of (get_or rows i d)).table) es ++ unread (i + 1)
    unread-hit a = rw (add-one, drop-cons rows i d h, a)

    pub unread-miss : asked role table (row_of (get_or rows i d)) ≡ false → unread i ≡ unread (i + 1)
    unread-miss a = rw (add-one, drop-cons rows i d h, a)

  pub unread-none : (i : ℕ) → length rows ≤ i → unread i ≡ []
  unread-none i h = rw (drop_all i rows h)
