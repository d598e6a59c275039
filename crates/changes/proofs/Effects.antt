-- One update: what doing what was judged does is what the rules do, since keys are distinct; and they stay distinct. Assumes nothing.
use Rattle.std.specs.Prelude.{if◌then◌else◌, Some, Result, Ok, Err}
use Prim.Native.Nat.{ℕ}
use native.Mathlib.Omega.{arith}
use mathlib.Core.Path.{◌≡◌, refl, sym, ap, ◌∙◌}
use mathlib.Core.Bool.{Bool, true, false, not}
use mathlib.Core.List.{List, [], ◌∷◌, ◌++◌, map}
use lib.Dec.{eqb}
use lib.ListN.{length, take, drop, get_or, set, length-drop, take-append-drop}
use borrow.Author.Tests.{eqb-true, ne_eqb}
use Rattle.rules.specs.Bytes.{byte, keep, some_of}
use Rattle.rules.specs.Frame.{Update, update_of}
use Rattle.rules.specs.Row.{Row, known, row_for}
use Rattle.rules.specs.Key.{short_key, key_of, has_key, table_of}
use Rattle.rules.specs.Entry.{short_entry}
use Rattle.rules.specs.Update.{Tables, is_insert, is_modify, stored, perform, apply}
use Rattle.rules.specs.Full.{judge_full_by, judge_full}
use Rattle.rules.specs.Sound.{Distinct}
use Rattle.rules.proofs.Tests.{and-false, same_true}
use Rattle.rules.proofs.Orders.{first-clear}
use Rattle.rules.proofs.Shortest.{key-of-short}
use Rattle.rules.proofs.Tables.{revised, distinct-map, distinct-keep, distinct_snoc}
use Rattle.store.specs.Store.{place, without, changed_at}
use Rattle.store.proofs.KeyPlace.{modify-place, delete-place, place-stored}
use Rattle.judging.specs.Verdict.{judge_in, numbered, Justified}
use Rattle.judging.specs.declared.Change.{Change}
use Rattle.judging.specs.declared.Change.TheVariants.{Insert, Modify, Delete}
use Rattle.changes.specs.Effect.{effect}

-- ---- what doing what was judged does

-- an entry that has the key of e, with the action of e after it, is e
changed-whole : (old e : List ℕ) → length e ≡ 220 → has_key (short_key e) old ≡ true
    → take 148 old ++ drop 148 (short_entry e) ≡ short_entry e
changed-whole old e l h =
    ap (λ (k : List ℕ). k ++ drop 148 (short_entry e)) (same_true (key_of old) (short_key e) h ∙ sym (key-of-short e l))
    ∙ take-append-drop 148 (short_entry e)

-- a MODIFY of the entry found
modified : (e : List ℕ) (es : List (List ℕ)) (i : ℕ) → length e ≡ 220 → Distinct es → place (short_key e) es ≡ Some i
    → changed_at i (drop 148 (short_entry e)) es
    ≡ map (λ (old : List ℕ). if has_key (key_of (short_entry e)) old then short_entry e else old) es
modified e es i l d p =
    let q : place (key_of (short_entry e)) es ≡ Some i = rw (key-of-short e l) p in
    ap (set es i) (changed-whole (get_or es i []) e l ((place-stored (short_key e) es).1 i p).2)
    ∙ sym (modify-place (short_entry e) es i d q)

-- a DELETE of the entry found
deleted : (e : List ℕ) (es : List (List ℕ)) (i : ℕ) → Distinct es → place (short_key e) es ≡ Some i
    → without i es ≡ keep (λ (old : List ℕ). not (has_key (short_key e) old)) es
deleted e es i d p = sym (delete-place (short_key e) es i d p)

-- an update that is refused changes nothing
pub refused : (reason : ℕ) (u : Update) (t : Tables) → (reason ≡ 0 → ⊥) → apply reason u t ≡ t
unfolding apply
refused reason u t n = rw (ne_eqb reason 0 n)

module _ (es : List (List ℕ)) (u : List ℕ) (long : length u ≡ 221) (d : Distinct es) where
  abbrev t : Tables
  t = record { entries = es }

  whole : length (drop 1 u) ≡ 220
  whole = omega (arith, length-drop 1 u)

  pub effect-ruled : {R : Type 0} (number : R → ℕ) (v : Result Change R) → Justified number v (byte 0 u) (drop 1 u) es
      → effect v (drop 1 u) es ≡ (apply (numbered number v) (update_of u) t).entries
  unfolding apply perform
  effect-ruled number (Err r) j = rw (ne_eqb (number r) 0 (λ z. omega arith))
  effect-ruled number (Ok Insert) j = rw j
  effect-ruled number (Ok (Modify i)) j = rw (j.0, j.1) (modified (drop 1 u) es i whole d j.2)
  effect-ruled number (Ok (Delete i)) j = rw (j.0, j.1) (deleted (drop 1 u) es i d j.2)

-- ---- an update keeps keys distinct

module _ (is_known : Bool) (row : Row) (role : ℕ) (t : Tables) (u : Update) (l : length u.entry ≡ 220) (ok : Distinct t.entries) where
  insert-distinct : judge_full_by 2 is_known row role t u ≡ 0 → is_insert u.type ≡ true → Distinct (t.entries ++ (short_entry u.entry ∷ []))
  unfolding judge_full_by stored
  insert-distinct j i =
      let e : List ℕ = u.entry in
      let c = first-clear _ refl j in
      let free : some_of (has_key (short_key e)) t.entries ≡ false = and-false _ _ c.1.1.1.1.1.1.0 i in
      distinct_snoc t.entries (short_entry e) ok (rw (key-of-short e l) free)

  applied-distinct : Distinct (apply (judge_full_by 2 is_known row role t u) u t).entries
  unfolding apply perform
  applied-distinct = go (eqb (judge_full_by 2 is_known row role t u) 0) (is_insert u.type) (is_modify u.type) refl refl
    where
      e : List ℕ
      e = short_entry u.entry

      other : List ℕ → Bool
      other old = not (has_key (short_key u.entry) old)

      go : (a b c : Bool) → eqb (judge_full_by 2 is_known row role t u) 0 ≡ a → is_insert u.type ≡ b
          → Distinct (if a then record {
            entries =
                if b then t.entries ++ (e ∷ []) else
                if c then map (revised e) t.entries else
                keep other t.entries;
          } else t).entries
      go true true c p q = insert-distinct (eqb-true _ _ p) q
      go true false true p q = distinct-map e t.entries ok
      go true false false p q = distinct-keep other t.entries ok
      go false b c p q = ok

-- judged by the rows in force
pub still-distinct : (rows : List Row) (role : ℕ) (t : Tables) (u : Update) → length u.entry ≡ 220 → Distinct t.entries
    → Distinct (apply (judge_in rows role t u) u t).entries
unfolding judge_full
still-distinct rows role t u = applied-distinct (known (table_of u.entry) rows) (row_for (table_of u.entry) rows) role t u
