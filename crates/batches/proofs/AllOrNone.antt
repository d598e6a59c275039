-- A batch with atomicity 1: the notes of its log, one written after the others or the last of them undone; the batch before its
-- update i, all earlier ones having taken effect; and what one comes to that an update stopped. Assumes nothing.
use Rattle.std.specs.Prelude.{if◌then◌else◌}
use Prim.Native.Nat.{ℕ, zero, suc, ◌+◌, ◌*◌, ◌≤◌, ◌<◌}
use native.Mathlib.Omega.{arith}
use native.Mathlib.Numerals.{add-one}
use mathlib.Core.Path.{◌≡◌, refl, sym, ap, ◌∙◌}
use mathlib.Core.Bool.{Bool, true, false, not}
use mathlib.Core.Option.{Option, none, some}
use mathlib.Core.List.{List, [], ◌∷◌, ◌++◌, append_assoc, map}
use lib.Dec.{eqb}
use lib.ListN.{length, take, drop, get_or, set, replicate, length-append, length-map, length-set, length-replicate, get_or-replicate}
use lib.Seq.{get_or-take, drop-cons, get_or-set_same, get_or-set_other}
use borrow.Author.Tests.{eqb-true, eqb-false}
use Rattle.rules.specs.Bytes.{every, concat}
use Rattle.rules.specs.Call.{pair_of}
use Rattle.rules.specs.Frame.{Update, update_of}
use Rattle.rules.specs.Row.{Row}
use Rattle.rules.specs.Update.{Tables, Batch, apply, each_alone, failure, rolled_back, unless_failed, all_or_none, batch}
use Rattle.rules.proofs.Formed.{parts-count}
use Rattle.rules.proofs.Rollback.{Told, told, failure-at, alone-snoc}
use Rattle.rules.proofs.Tests.{contradiction, every_append}
use Rattle.buffers.specs.Splice.{splice}
use Rattle.buffers.proofs.Splice.{splice_front}
use Rattle.store.specs.Store.{entries_in, tables_in, Holds}
use Rattle.store.specs.declared.Tables.{Tables as Held}
use Rattle.changes.specs.Undo.{note_of, undone, Undoable, Undoing}
use Rattle.judging.specs.Verdict.{judge_in}
use Rattle.batches.specs.Batch.{updates_in, BatchApplied}
use Rattle.batches.specs.Rollback.{note_at, Noted, Undoes}
use Rattle.batches.specs.declared.Written.{Written}

-- ---- the notes

-- a note that is written after the first k leaves them
undoes-behind : (k at : ℕ) (log us : List (List ℕ)) (note : List ℕ) (es goal : List (List ℕ)) → k ≤ at
    → Undoes k log us es goal → Undoes k (set log at note) us es goal
unfolding Undoes
undoes-behind zero at log us note es goal h u = u
undoes-behind (suc k) at log us note es goal h u =
    let other : get_or (set log at note) k [] ≡ get_or log k [] = get_or-set_other log at k note [] (λ e. omega arith) in
    rw other (u.0, undoes-behind k at log us note _ goal (omega arith) u.1)

-- one note more
undoes-next : (k : ℕ) (log us : List (List ℕ)) (note : List ℕ) (es after goal : List (List ℕ)) → k < length log
    → Undoes k log us es goal → Undoing (note_of note (get_or us k [])) after es
    → Undoes (k + 1) (set log k note) us after goal
unfolding Undoes
undoes-next k log us note es after goal h u n =
    let here : get_or (set log k note) k [] ≡ note = get_or-set_same log k note [] h in
    rw (add-one k, here, n.back) (n.possible, undoes-behind k k log us note es goal (omega arith) u)

-- only the first k updates are looked at
pub undoes-front : (k n : ℕ) (log us es goal : List (List ℕ)) → k ≤ n → Undoes k log us es goal → Undoes k log (take n us) es goal
unfolding Undoes
undoes-front zero n log us es goal h u = u
undoes-front (suc k) n log us es goal h u =
    let same : get_or (take n us) k [] ≡ get_or us k [] = get_or-take n us k [] (omega arith) in
    rw same (u.0, undoes-front k n log us _ goal (omega arith) u.1)

-- the last note undone
undoes-last : (k n : ℕ) (log us : List (List ℕ)) (es goal : List (List ℕ)) → n ≡ k + 1 → Undoes n log us es goal
    → Undoable (note_at k log us) (length es) × Undoes k log us (undone (note_at k log us) es) goal
unfolding Undoes
undoes-last k n log us es goal e u = rw (e, add-one k) at u

-- rolling back with i notes left: the store is as long as at the start, and as it was from 56,320 on
pub record UndoneSoFar (goal log us : List (List ℕ)) (start store : List ℕ) (held : Held) (i : ℕ) : Type 0 where
  pub room : length store ≡ length start
  pub beyond : drop 56_320 store ≡ drop 56_320 start
  pub undoes : Undoes i log us (entries_in held store) goal

module _ {goal log us : List (List ℕ)} {start store : List ℕ} {held : Held} {i : ℕ} (b : UndoneSoFar goal log us start store held i) where
  pub back-next : {k : ℕ} {r : Held} {after : List ℕ} → i ≡ k + 1
      → (Undoable (note_at k log us) held.count → Holds store after r (undone (note_at k log us) (entries_in held store)))
      → UndoneSoFar goal log us start after r k
  back-next {k} {r} {after} e l =
      let u = undoes-last k i log us (entries_in held store) goal e b.undoes in
      let a = l (rw (parts-count held.count 220 store) at u.0) in
      record { room = a.room ∙ b.room; beyond = a.beyond ∙ b.beyond; undoes = rw a.holds u.1 }

  pub back_end : i ≡ 0 → held.count ≤ 256 → Holds start store held goal
  unfolding Undoes
  back_end e few = record { holds = rw e at b.undoes; few = few; room = b.room; beyond = b.beyond }

-- ---- the batch up to the first update that fails

module _ (rows : List Row) (role : ℕ) where
  abbrev passes : Tables → List Update → Bool
  passes t us = every (eqb 0) (each_alone (judge_in rows role) t us).reasons

  no-failure : (t : Tables) (us : List Update) → passes t us ≡ true → failure (judge_in rows role) t us ≡ none
  no-failure t us e = go (failure (judge_in rows role) t us) (told (judge_in rows role) t us)
    where
      go : (o : Option (ℕ × ℕ)) → Told (judge_in rows role) o t us → o ≡ none
      go none h = refl
      go (some f) h = contradiction e h.0

  -- The updates before update i have taken effect and are noted; `later` are those left.
  pub record PassedSoFar (tables : Held) (us : List (List ℕ)) (start : List ℕ) (later : List Update) (store : List ℕ)
      (log : List (List ℕ)) (held : Held) (i : ℕ) : Type 0 where
    pub earlier : List Update
    pub split : updates_in us ≡ earlier ++ later
    pub many : length earlier ≡ i
    pub passed : passes (tables_in tables start) earlier ≡ true
    pub left : Holds start store held (each_alone (judge_in rows role) (tables_in tables start) earlier).tables.entries
    pub undoes : Undoes i log us (entries_in held store) (entries_in tables start)

  pub passed_start : (tables : Held) (us : List (List ℕ)) (start : List ℕ) (log : List (List ℕ)) → tables.count ≤ 256
      → PassedSoFar tables us start (updates_in us) start log tables 0
  unfolding Undoes each_alone
  passed_start tables us start log few = record {
    earlier = [];
    split = refl;
    many = refl;
    passed = refl;
    left = record { holds = refl; few = few; room = refl; beyond = refl };
    undoes = refl;
  }

  module _ {tables : Held} {us log : List (List ℕ)} {start store : List ℕ} {held : Held} {i : ℕ} where
    module _ {u : Update} {later : List Update} (b : PassedSoFar tables us start (u ∷ later) store log held i) where
      -- the tables now
      now-is : tables_in held store ≡ (each_alone (judge_in rows role) (tables_in tables start) b.earlier).tables
      now-is = ap (λ (es : List (List ℕ)). let x : Tables = record { entries = es } in x) b.left.holds

      -- an update that takes effect
      pub passed-next : {after : List ℕ} {log' : List (List ℕ)} {reason : ℕ} {m : Held}
          → reason ≡ judge_in rows role (tables_in held store) u → reason ≡ 0
          → Holds store after m (apply reason u (tables_in held store)).entries → i < length log
          → Noted i (get_or us i []) (entries_in held store) (entries_in m after) log log'
          → PassedSoFar tables us start later after log' m (i + 1)
      passed-next {after} {m = m} e z a h d =
          let t : Tables = tables_in tables start in
          let snoc : each_alone (judge_in rows role) t (b.earlier ++ (u ∷ []))
          ≡ (let x : Batch = record {
            tables = apply (judge_in rows role (tables_in held store) u) u (tables_in held store);
            reasons = (each_alone (judge_in rows role) t b.earlier).reasons ++ (judge_in rows role (tables_in held store) u ∷ []);
          } in x) =
          rw now-is (alone-snoc (judge_in rows role) t b.earlier u) in
          record {
            earlier = b.earlier ++ (u ∷ []);
            split = b.split ∙ sym (append_assoc b.earlier (u ∷ []) later);
            many = length-append b.earlier (u ∷ []) ∙ ap (λ (k : ℕ). k + 1) b.many;
            passed = rw (snoc, ← e, z) (every_append (eqb 0) (each_alone (judge_in rows role) t b.earlier).reasons (0 ∷ []) b.passed refl);
            left = record {
              holds = rw (snoc, ← e) a.holds;
              few = a.few;
              room = a.room ∙ b.left.room;
              beyond = a.beyond ∙ b.left.beyond;
            };
            undoes = rw d.bytes
                (undoes-next i log us d.note (entries_in held store) (entries_in m after) (entries_in tables start) h b.undoes d.undoing);
          }

      -- one that fails
      pub passed-fails : {reason : ℕ} → reason ≡ judge_in rows role (tables_in held store) u → (reason ≡ 0 → ⊥)
          → failure (judge_in rows role) (tables_in tables start) (updates_in us) ≡ some (i, reason)
      passed-fails {reason} e f =
          let t : Tables = tables_in tables start in
          let fails : judge_in rows role (each_alone (judge_in rows role) t b.earlier).tables u ≡ 0 → ⊥ = λ z. f (e ∙ rw now-is z) in
          rw (b.split, failure-at (judge_in rows role) t b.earlier u later b.passed fails, b.many, ← now-is, e) refl

-- ---- what the batch comes to

pairs-long : (rs : List ℕ) → length (concat (map pair_of rs)) ≡ 2 * length rs
pairs-long [] = refl
pairs-long (r ∷ rs) = omega (arith, pairs-long rs)

-- n pairs, written over what changed no byte after them
pairs-anew : (n : ℕ) (rs before mid : List ℕ) → length rs ≡ n → drop (2 * n) mid ≡ drop (2 * n) before
    → splice mid 0 (concat (map pair_of rs)) ≡ splice before 0 (concat (map pair_of rs))
pairs-anew n rs before mid l e =
    let ps : List ℕ = concat (map pair_of rs) in
    let k : length ps ≡ 2 * n = pairs-long rs ∙ ap (λ (m : ℕ). 2 * m) l in
    splice_front mid ps ∙ rw k (ap (λ (x : List ℕ). ps ++ x) e) ∙ sym (splice_front before ps)

pub rolled-count : (n at own : ℕ) → length (rolled_back n (at, own)) ≡ n
rolled-count n at own = length-set (replicate n 25) at own ∙ length-replicate n 25

module _ (rows : List Row) (role : ℕ) (tables : Held) (us : List (List ℕ)) (before : List ℕ) where
  abbrev each : Batch
  each = each_alone (judge_in rows role) (tables_in tables before) (updates_in us)

  abbrev all : ℕ → Batch
  all atomicity = batch atomicity (judge_in rows role) (tables_in tables before) (updates_in us)

  -- a batch that came to its end, with atomicity 1 without a failure
  pub ended : {atomicity : ℕ} {after : List ℕ} {w : Written} → BatchApplied each before after w → (atomicity ≡ 1 → w.failed ≡ false)
      → all atomicity ≡ each
  unfolding batch all_or_none
  ended {atomicity} {w = w} a z = go (eqb atomicity 1) refl
    where
      passed : (p : Bool) → false ≡ not p → p ≡ true
      passed true e = refl
      passed false e = e

      go : (x : Bool) → eqb atomicity 1 ≡ x → (if x then all_or_none (judge_in rows role) (tables_in tables before) (updates_in us) else each) ≡ each
      go false q = refl
      go true q =
          let e : false ≡ not (every (eqb 0) each.reasons) = rw (z (eqb-true atomicity 1 q)) at a.failed in
          rw (no-failure rows role (tables_in tables before) (updates_in us) (passed _ e)) refl

  -- one that update `at` stopped with a reason of its own
  module _ {atomicity at own : ℕ} (one : atomicity ≡ 1)
      (f : failure (judge_in rows role) (tables_in tables before) (updates_in us) ≡ some (at, own)) where
    all-rolled : all atomicity ≡ unless_failed (some (at, own)) (tables_in tables before) (updates_in us) each
    unfolding batch all_or_none
    all-rolled = rw (one, f) refl

    failing : every (eqb 0) (rolled_back (length (updates_in us)) (at, own)) ≡ false
    failing = (rw f at (told (judge_in rows role) (tables_in tables before) (updates_in us))).1

    pub rolled : {after : List ℕ} {m : Held} → Holds before after m (entries_in tables before)
        → BatchApplied (all atomicity) before after (record { tables = m; failed = true })
    rolled h = rw all-rolled (record { failed = rw failing refl; left = h })

    rolled-reasons : (all atomicity).reasons ≡ rolled_back (length us) (at, own)
    rolled-reasons = rw (all-rolled, length-map us update_of) refl

    -- its pairs, written over what changed no byte after them
    pub rolled-pairs : (out mid : List ℕ) {answer : List ℕ} → answer ≡ splice mid 0 (concat (map pair_of (rolled_back (length us) (at, own))))
        → drop (2 * length us) mid ≡ drop (2 * length us) out → answer ≡ splice out 0 (concat (map pair_of (all atomicity).reasons))
    rolled-pairs out mid w e =
        rw rolled-reasons (w ∙ pairs-anew (length us) (rolled_back (length us) (at, own)) out mid (rolled-count (length us) at own) e)

-- ---- the pairs of a batch that was stopped

-- the reasons from i on
pub outcomes-from : (n at own i : ℕ) → i < n
    → drop i (rolled_back n (at, own)) ≡ (if eqb i at then own else 25) ∷ drop (i + 1) (rolled_back n (at, own))
outcomes-from n at own i h =
    let l : List ℕ = rolled_back n (at, own) in
    let k : length l ≡ n = rolled-count n at own in
    rw (drop-cons l i 0 (omega arith), add-one i) (ap (λ (x : ℕ). x ∷ drop (suc i) l) (go (eqb i at) refl))
  where
    go : (b : Bool) → eqb i at ≡ b → get_or (rolled_back n (at, own)) i 0 ≡ (if b then own else 25)
    go true q =
        let m : length {A = ℕ} (replicate n 25) ≡ n = length-replicate n 25 in
        rw (eqb-true i at q) (get_or-set_same (replicate n 25) at own 0 (omega (arith, eqb-true i at q)))
    go false q = get_or-set_other (replicate n 25) at i own 0 (eqb-false i at q) ∙ get_or-replicate n i 25 0 h
