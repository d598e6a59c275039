-- A batch before its update i, which nothing has stopped: what the updates left will do to the store as it is now, after what was
-- done, is what all of them do to the store at the start. Assumes nothing.
use Rattle.std.specs.Prelude.{if◌then◌else◌}
use Prim.Native.Nat.{ℕ, ◌+◌, ◌*◌, ◌≤◌}
use mathlib.Core.Path.{◌≡◌, refl, sym, ap, ◌∙◌}
use mathlib.Core.Bool.{Bool, true, false, ◌&&◌, not}
use mathlib.Core.List.{List, [], ◌∷◌, map}
use lib.Dec.{eqb}
use lib.ListN.{length, drop}
use borrow.Author.Tests.{ne_eqb}
use Rattle.rules.specs.Bytes.{every, concat}
use Rattle.rules.specs.Frame.{Update}
use Rattle.rules.specs.Row.{Row}
use Rattle.rules.specs.Update.{Tables, Batch, apply, each_alone}
use Rattle.rules.specs.Call.{pair_of}
use Rattle.rules.specs.Sound.{Distinct}
use Rattle.store.specs.declared.Tables.{Tables as Held}
use Rattle.buffers.specs.Splice.{splice}
use Rattle.buffers.proofs.Written.{Written as Pairs, written_none, written_next, written_all}
use Rattle.store.specs.Store.{entries_in, tables_in, Holds}
use Rattle.changes.proofs.Effects.{still-distinct}
use Rattle.judging.specs.Verdict.{judge_in}
use Rattle.batches.specs.Batch.{BatchApplied}

-- ---- the flag

-- after an update of this reason
abbrev pub flagged : ℕ → Bool → Bool
flagged reason failed = if eqb 0 reason then failed else true

module _ (reason : ℕ) (failed : Bool) {flag : Bool} where
  pub flag-set : (reason ≡ 0 → ⊥) → flag ≡ true → flag ≡ flagged reason failed
  flag-set n e = rw (ne_eqb 0 reason (λ z. n (sym z))) e

still : (reason : ℕ) (failed rest : Bool) → (not failed && (eqb 0 reason && rest)) ≡ (not (flagged reason failed) && rest)
still reason failed rest = go (eqb 0 reason) failed
  where
    go : (b f : Bool) → (not f && (b && rest)) ≡ (not (if b then f else true) && rest)
    go true f = refl
    go false true = refl
    go false false = refl

-- ---- the store and the answer

module _ (rows : List Row) (role : ℕ) where
  -- what updates do to a store as it is
  abbrev does : Held → List ℕ → List Update → Batch
  does held store us = each_alone (judge_in rows role) (tables_in held store) us

  -- `all` is what all updates do to the store `start`, with the answer `out`; us are those left
  pub record TakenSoFar (all : Batch) (start out : List ℕ) (us : List Update) (store answer : List ℕ) (held : Held) (failed : Bool)
      (i : ℕ) : Type 0 where
    pub distinct : Distinct (entries_in held store)
    pub few : held.count ≤ 256
    pub room : length store ≡ length start
    pub beyond : drop 56_320 store ≡ drop 56_320 start
    pub tables : all.tables ≡ (does held store us).tables
    pub failing : every (eqb 0) all.reasons ≡ (not failed && every (eqb 0) (does held store us).reasons)
    pub pairs : Pairs 2 (map pair_of all.reasons) out (map pair_of (does held store us).reasons) answer i

  pub taken_start : (tables : Held) (start out : List ℕ) (us : List Update) → tables.count ≤ 256 → Distinct (entries_in tables start)
      → TakenSoFar (does tables start us) start out us start out tables false 0
  taken_start tables start out us few ok =
      record { distinct = ok; few = few; room = refl; beyond = refl; tables = refl; failing = refl; pairs = written_none 2 _ out }

  module _ {all : Batch} {start out store answer : List ℕ} {held : Held} {i : ℕ} {failed : Bool} where
    pub taken_next : {u : Update} {us : List Update} {after answer' : List ℕ} {reason : ℕ} {n : Held} {failed' : Bool}
        → TakenSoFar all start out (u ∷ us) store answer held failed i → length u.entry ≡ 220 → 2 * i ≤ length out
        → reason ≡ judge_in rows role (tables_in held store) u
        → Holds store after n (apply reason u (tables_in held store)).entries
        → failed' ≡ flagged reason failed
        → answer' ≡ splice answer (2 * i) (pair_of reason)
        → TakenSoFar all start out us after answer' n failed' (i + 1)
    unfolding each_alone
    taken_next {u} {us} {after} {answer'} {reason} {n} b l h e left f w =
        let before : Tables = tables_in held store in
        let t : tables_in n after ≡ apply (judge_in rows role before u) u before =
        ap (λ (es : List (List ℕ)). let x : Tables = record { entries = es } in x) left.holds ∙ ap (λ (r : ℕ). apply r u before) e in
        record {
          distinct = rw (left.holds, e) (still-distinct rows role before u l b.distinct);
          few = left.few;
          room = left.room ∙ b.room;
          beyond = left.beyond ∙ b.beyond;
          tables = rw t b.tables;
          failing = rw (t, f, e) (b.failing ∙ still (judge_in rows role before u) failed _);
          pairs = rw t (written_next b.pairs refl refl h (rw e at w) refl);
        }

  pub taken-end : {all : Batch} {start out store answer : List ℕ} {held : Held} {i : ℕ} {failed : Bool}
      → TakenSoFar all start out [] store answer held failed i
      → BatchApplied all start store (record { tables = held; failed = failed }) × (answer ≡ splice out 0 (concat (map pair_of all.reasons)))
  unfolding each_alone
  taken-end {all} {failed = failed} b = (
    record {
      failed = flag failed b.failing;
      left = record { holds = sym (ap (λ (t : Tables). t.entries) b.tables); few = b.few; room = b.room; beyond = b.beyond };
    },
    (written_all b.pairs refl).1,
  )
    where
      flag : (f : Bool) → every (eqb 0) all.reasons ≡ (not f && true) → f ≡ not (every (eqb 0) all.reasons)
      flag true q = rw q
      flag false q = rw q
