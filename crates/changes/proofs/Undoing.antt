-- Undoing what was noted of an update brings back the entries before it, each in its place: one law for each kind. Assumes nothing.
use Prim.Native.Nat.{ℕ, suc, ◌+◌, ◌*◌, ◌-◌, ◌≤◌, ◌<◌}
use native.Mathlib.Omega.{arith}
use mathlib.Core.Path.{◌≡◌, refl, sym, ap, ◌∙◌}
use mathlib.Core.List.{List, [], ◌∷◌, ◌++◌}
use Rattle.std.specs.Prelude.{Some, Result, Ok, Err}
use lib.ListN.{length, take, drop, get_or, set, length-append, length-drop, length-set, take-append-drop}
use lib.Seq.{take_all, take_at, drop_at, drop-drop, split_at, set-set, set-get_or, get_or-set_same, length-take-le}
use borrow.Author.Tests.{ne_eqb, eqb-false}
use Rattle.rules.specs.Bytes.{byte, part}
use Rattle.rules.specs.Key.{short_key, key_of}
use Rattle.rules.specs.Entry.{short_entry}
use Rattle.rules.proofs.Lists.{drop-take}
use Rattle.rules.proofs.Tests.{same_true}
use Rattle.rules.proofs.Shortest.{key-length}
use Rattle.store.specs.declared.Tables.{Tables}
use Rattle.store.specs.Store.{entries_in, place, without, inserted_at, changed_at, Holds}
use Rattle.store.proofs.Writes.{parts_at}
use Rattle.store.proofs.KeyPlace.{place-stored}
use Rattle.judging.specs.declared.Change.{Change}
use Rattle.judging.specs.declared.Change.TheVariants.{Insert, Modify, Delete}
use Rattle.changes.specs.Effect.{effect}
use Rattle.changes.specs.Undo.{Added, Changed, Removed, note_of, noted, undone, Undone, Undoing, UndoAfterApply}

-- ---- undo after apply, on the entries

undo-added : (es : List (List ℕ)) (e : List ℕ) → undone Added (es ++ (e ∷ [])) ≡ es
undo-added es e =
    let l : length (es ++ (e ∷ [])) ≡ length es + 1 = length-append es (e ∷ []) in
    take_at es (e ∷ []) (length (es ++ (e ∷ [])) - 1) (omega arith)

-- the key stays under a change, so that the old action after it is the old entry
undo-changed : (es : List (List ℕ)) (i : ℕ) (a : List ℕ) → i < length es → length (key_of (get_or es i [])) ≡ 148
    → undone (Changed i (drop 148 (get_or es i []))) (changed_at i a es) ≡ es
undo-changed es i a h l =
    let old : List ℕ = get_or es i [] in
    rw (get_or-set_same es i (take 148 old ++ a) [] h, take_at (take 148 old) a 148 l, take-append-drop 148 old)
    (set-set es i (take 148 old ++ a) old ∙ set-get_or es i [])

undo-removed : (es : List (List ℕ)) (i : ℕ) → i < length es → undone (Removed i (get_or es i [])) (without i es) ≡ es
undo-removed es i h =
    let l : length (take i es) ≡ i = length-take-le i es (omega arith) in
    rw (take_at (take i es) (drop (suc i) es) i l, drop_at (take i es) (drop (suc i) es) i l) (sym (split_at es i [] h))

-- ---- a note in bytes

module _ (b u : List ℕ) where
  pub note-one : byte 0 b ≡ 1 → note_of b u ≡ Added
  unfolding note_of
  note-one e = rw e

  pub note-two : byte 0 b ≡ 2 → note_of b u ≡ Changed (byte 1 b) (drop 2 b)
  unfolding note_of
  note-two e = rw e

  pub note-other : (byte 0 b ≡ 1 → ⊥) → (byte 0 b ≡ 2 → ⊥) → note_of b u ≡ Removed (byte 1 b) (short_key (drop 1 u) ++ drop 2 b)
  unfolding note_of
  note-other n m = rw (ne_eqb (byte 0 b) 1 n, ne_eqb (byte 0 b) 2 m)

-- a note as it is written: its type and place, then the action
pub note-written : (note p : List ℕ) (kind i : ℕ) → length note ≡ 74 → take 2 (set (set note 0 kind) 1 i) ++ p ≡ kind ∷ i ∷ p
note-written [] p kind i l = absurd (omega arith)
note-written (x ∷ []) p kind i l = absurd (omega arith)
note-written (x ∷ y ∷ note) p kind i l = refl

-- a note of which only the type is written
pub type-written : (note : List ℕ) (kind : ℕ) → length note ≡ 74 → set note 0 kind ≡ kind ∷ drop 1 note
type-written [] kind l = absurd (omega arith)
type-written (x ∷ note) kind l = refl

-- ---- what is noted of what was judged

-- the action and parameters of entry i are its last 72 bytes
pub action-at : (i : ℕ) (tables : Tables) (store : List ℕ) → i < tables.count
    → drop 148 (get_or (entries_in tables store) i []) ≡ part (220 * i + 148) 72 store
action-at i tables store h =
    ap (drop 148) (parts_at i tables.count 220 store h) ∙ drop-take 148 220 (drop (220 * i) store) ∙ ap (take 72) (drop-drop 148 (220 * i) store)

-- ---- undo after apply

-- the entry that was found of a key has it
key-found : (k : List ℕ) (es : List (List ℕ)) (i : ℕ) → place k es ≡ Some i → key_of (get_or es i []) ≡ k
key-found k es i p = same_true (key_of (get_or es i [])) k ((place-stored k es).1 i p).2

-- and so is the key, then its action and parameters
entry_found : (k : List ℕ) (es : List (List ℕ)) (i : ℕ) → place k es ≡ Some i → k ++ drop 148 (get_or es i []) ≡ get_or es i []
entry_found k es i p =
    ap (λ (x : List ℕ). x ++ drop 148 (get_or es i [])) (sym (key-found k es i p)) ∙ take-append-drop 148 (get_or es i [])

module _ (R : Type 0) (u : List ℕ) (es : List (List ℕ)) (note : List ℕ) (few : length es ≤ 256) (long : length u ≡ 221) where
  abbrev key : List ℕ
  key = short_key (drop 1 u)

  -- undoing what is noted of what was judged brings back the entries before it
  abbrev Back : Result Change R → Type 0
  Back v = Undoing (note_of (noted v es note) u) (effect v (drop 1 u) es) es

  insert-undone : Back (Ok Insert)
  insert-undone = rw (note-one (1 ∷ drop 1 note) u refl) (record {
    possible = omega (arith, length-append es (short_entry (drop 1 u) ∷ []));
    back = undo-added es _;
  })

  modify-undone : (i : ℕ) → place key es ≡ Some i → Back (Ok (Modify i))
  modify-undone i f =
      let h : i < length es = ((place-stored key es).1 i f).0 in
      let l : length (key_of (get_or es i [])) ≡ 148 = ap length (key-found key es i f) ∙ key-length (drop 1 u) (omega (arith, length-drop 1 u)) in
      rw (note-two (2 ∷ i ∷ drop 148 (get_or es i [])) u refl) (record {
        possible = simp length-set h;
        back = undo-changed es i _ h l;
      })

  delete-undone : (i : ℕ) → place key es ≡ Some i → Back (Ok (Delete i))
  delete-undone i f =
      let h : i < length es = ((place-stored key es).1 i f).0 in
      let b : List ℕ = 3 ∷ i ∷ drop 148 (get_or es i []) in
      let a : length (take i es) ≡ i = length-take-le i es (omega arith) in
      let c : length (without i es) ≡ length (take i es) + length (drop (suc i) es) = length-append (take i es) (drop (suc i) es) in
      let d : length (drop (suc i) es) ≡ length es - suc i = length-drop (suc i) es in
      rw (note-other b u (eqb-false 3 1 refl) (eqb-false 3 2 refl), entry_found key es i f) (record {
        possible = (omega arith, omega arith);
        back = undo-removed es i h;
      })

pub undo-after-apply : {R : Type 0} (number : R → ℕ) → UndoAfterApply number
undo-after-apply number (Err r) type u es note few long z j = absurd (omega arith)
undo-after-apply {R} number (Ok Insert) type u es note few long z j = insert-undone R u es note few long
undo-after-apply {R} number (Ok (Modify i)) type u es note few long z j = modify-undone R u es note few long i j.2
undo-after-apply {R} number (Ok (Delete i)) type u es note few long z j = delete-undone R u es note few long i j.2

-- ---- undoing a note, by its type

module _ (note u before after : List ℕ) (tables r : Tables) where
  abbrev es : List (List ℕ)
  es = entries_in tables before

  abbrev Same : Type 0
  Same = (after ≡ before) × (r ≡ tables)

  pub back_one : byte 0 note ≡ 1 → Holds before after r (take (length es - 1) es) → ((0 < tables.count → ⊥) → Same)
      → Undone note u tables before after r
  back_one e h k = rw (note-one note u e) (λ f. h, k)

  module _ {i : ℕ} (at : i ≡ byte 1 note) where
    pub back-two : length note ≡ 74 → byte 0 note ≡ 2 → (i < tables.count → Holds before after r (changed_at i (take 72 (drop 2 note)) es))
        → ((i < tables.count → ⊥) → Same) → Undone note u tables before after r
    back-two long e h k =
        let a : take 72 (drop 2 note) ≡ drop 2 note = take_all 72 (drop 2 note) (omega (arith, length-drop 2 note)) in
        rw (note-two note u e, ← at, ← a) (h, k)

    pub back-other : (byte 0 note ≡ 1 → ⊥) → (byte 0 note ≡ 2 → ⊥)
        → (i ≤ tables.count → tables.count < 256 → Holds before after r (inserted_at i (short_key (drop 1 u) ++ drop 2 note) es))
        → (((i ≤ tables.count) × (tables.count < 256) → ⊥) → Same) → Undone note u tables before after r
    back-other a b h k = rw (note-other note u a b, ← at) (λ f. h f.0 f.1, k)
