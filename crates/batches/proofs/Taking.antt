-- A batch before its update i: what was taken so far, each update alone, and with atomicity 1 with none that failed. One law for each
-- way on: to the next update, to the end, or back from the update that stops it. Assumes nothing.
use Prim.Native.Nat.{ℕ, ◌+◌, ◌*◌, ◌≤◌, ◌<◌}
use native.Mathlib.Omega.{arith}
use mathlib.Core.Path.{◌≡◌, refl, sym, ap, ◌∙◌}
use mathlib.Core.Bool.{Bool, true, false}
use mathlib.Core.List.{List, [], ◌∷◌, map}
use Rattle.std.specs.Prelude.{Result}
use native.Mathlib.Numerals.{add-one}
use lib.ListN.{length, take, drop, get_or, length-drop, drop_of_length-le}
use lib.Seq.{drop-cons, length-take-le}
use Rattle.rules.specs.Bytes.{concat}
use Rattle.rules.specs.Call.{pair_of}
use Rattle.rules.specs.Frame.{Update, update_of}
use Rattle.rules.specs.Row.{Row}
use Rattle.rules.specs.Sound.{Distinct}
use Rattle.rules.specs.Update.{each_alone, rolled_back}
use Rattle.rules.specs.declared.Reason.{Reason}
use Rattle.rules.specs.Named.{reason_of}
use Rattle.buffers.specs.Splice.{splice}
use Rattle.buffers.proofs.Splice.{drop-splice}
use Rattle.store.specs.Store.{entries_in, tables_in}
use Rattle.store.specs.declared.Tables.{Tables as Held}
use Rattle.judging.specs.Verdict.{judge_in}
use Rattle.batches.specs.Batch.{updates_in, batch_in, BatchApplied}
use Rattle.batches.specs.Rollback.{RolledBack}
use Rattle.batches.specs.Step.{Stepped, left_of}
use Rattle.batches.proofs.EachAlone.{TakenSoFar, taken_start, taken_next, taken-end, flagged}
use Rattle.batches.proofs.AllOrNone.{PassedSoFar, passed_start, passed-next, passed-fails, undoes-front, ended, rolled, rolled-pairs}

module _ (rows : List Row) (role atomicity : ℕ) (tables : Held) (us : List (List ℕ)) (start out : List ℕ) where
  -- how many updates there are
  abbrev n : ℕ
  n = length us

  -- the updates left
  abbrev later : ℕ → List Update
  later i = map update_of (drop i us)

  -- update i is the first of them
  later-next : (i : ℕ) → i < n → drop i us ≡ get_or us i [] ∷ drop (i + 1) us
  later-next i h = drop-cons us i [] h ∙ ap (λ (k : ℕ). get_or us i [] ∷ drop k us) (sym (add-one i))

  pub record Taking (store : List ℕ) (log : List (List ℕ)) (answer : List ℕ) (held : Held) (failed : Bool) (i : ℕ) : Type 0 where
    pub each : Distinct (entries_in tables start)
        → TakenSoFar rows role (each_alone (judge_in rows role) (tables_in tables start) (updates_in us)) start out (later i) store answer held
        failed i
    pub passed : atomicity ≡ 1 → Distinct (entries_in tables start) → PassedSoFar rows role tables us start (later i) store log held i
    pub clear : atomicity ≡ 1 → failed ≡ false

  pub taking-start : (log : List (List ℕ)) → tables.count ≤ 256 → Taking start log out tables false 0
  taking-start log few = record {
    each = λ t. taken_start rows role tables start out (later 0) few t;
    passed = λ e t. passed_start rows role tables us start log few;
    clear = λ e. refl;
  }

  module _ {store : List ℕ} {log : List (List ℕ)} {answer : List ℕ} {held : Held} {failed : Bool} {i : ℕ}
      (b : Taking store log answer held failed i) where
    pub taking-end : n ≤ i → Distinct (entries_in tables start)
        → BatchApplied (batch_in atomicity rows role us (tables_in tables start)) start store (record { tables = held; failed = failed })
        × (answer ≡ splice out 0 (concat (map pair_of (batch_in atomicity rows role us (tables_in tables start)).reasons)))
    taking-end h t =
        let none : drop i us ≡ [] = drop_of_length-le us {i = i} h in
        let e = taken-end rows role (rw none at (b.each t)) in
        rw (ended rows role tables us start {atomicity = atomicity} e.0 b.clear) e

    -- update i was taken
    module _ {after : List ℕ} {log' : List (List ℕ)} {answer' : List ℕ} {r : Result Held Reason} (less : i < n)
        (stepped : Stepped rows role atomicity i (get_or us i []) held store after log log' answer answer' r) where
      -- its pair writes no byte after the pairs
      pub beyond : length answer ≡ length out → 2 * n ≤ length out → drop (2 * n) answer ≡ drop (2 * n) out
          → drop (2 * n) answer' ≡ drop (2 * n) out
      beyond l h e =
          ap (drop (2 * n)) stepped.pair
          ∙ drop-splice (2 * n) answer (2 * i) (pair_of (reason_of r)) (omega arith) (omega arith)
          ∙ e

      pub taking-next : {held' : Held} {failed' : Bool} → length (get_or us i []) ≡ 221 → 2 * n ≤ length out → (atomicity ≡ 1 → n ≤ length log)
          → (atomicity ≡ 1 → reason_of r ≡ 0) → held' ≡ left_of r held → failed' ≡ flagged (reason_of r) failed
          → Taking after log' answer' held' failed' (i + 1)
      taking-next {held'} {failed'} size room fits passes tables-are flag =
          let u : List ℕ = get_or us i [] in
          let long : length (drop 1 u) ≡ 220 = omega (arith, length-drop 1 u) in
          rw tables-are (record {
            each = λ t.
                let e = rw (later-next i less) at (b.each t) in
                taken_next rows role e long (omega arith) stepped.reason (stepped.left e.distinct) flag stepped.pair;
            passed = λ one t.
                let p = rw (later-next i less) at (b.passed one t) in
                let z = passes one in
                passed-next rows role p stepped.reason z (stepped.left (b.each t).distinct) (omega (arith, fits one)) (stepped.noted one z);
            clear = λ one. rw (passes one) at flag ∙ b.clear one;
          })

      -- it stops the batch, and what was done is undone
      module _ (one : atomicity ≡ 1) (own : reason_of r ≡ 0 → ⊥) (t : Distinct (entries_in tables start)) where
        pub taking-stop : {back : List ℕ} {m : Held} → RolledBack (length (take i us)) log' (take i us) (left_of r held) after back m
            → BatchApplied (batch_in atomicity rows role us (tables_in tables start)) start back (record { tables = m; failed = true })
        taking-stop {back} {m} u =
            let p = rw (later-next i less) at (b.passed one t) in
            let kept = stepped.refused own in
            let many : length (take i us) ≡ i = length-take-le i us (omega arith) in
            let same : RolledBack i log (take i us) held store back m = rw (many, kept.0, kept.1, kept.2) at u in
            let h = same (entries_in tables start) (undoes-front i i log us _ _ (omega arith) p.undoes) in
            rolled rows role tables us start one (passed-fails rows role p stepped.reason own)
            (record { holds = h.holds; few = h.few; room = h.room ∙ p.left.room; beyond = h.beyond ∙ p.left.beyond })

        pub stop-pairs : {anew : List ℕ} → anew ≡ splice answer' 0 (concat (map pair_of (rolled_back n (i, reason_of r))))
            → drop (2 * n) answer' ≡ drop (2 * n) out
            → anew ≡ splice out 0 (concat (map pair_of (batch_in atomicity rows role us (tables_in tables start)).reasons))
        stop-pairs w e =
            let p = rw (later-next i less) at (b.passed one t) in
            rolled-pairs rows role tables us start one (passed-fails rows role p stepped.reason own) out answer' w e
