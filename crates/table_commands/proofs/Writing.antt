-- A WRITE: what its batch leaves, and its answer. Assumes nothing.
use Rattle.std.specs.Prelude.{if◌then◌else◌}
use Prim.Native.Nat.{ℕ, ◌+◌, ◌-◌, ◌*◌, ◌≤◌}
use native.Mathlib.Omega.{arith}
use mathlib.Core.Path.{◌≡◌, refl, sym, ap, ◌∙◌, subst}
use mathlib.Core.Bool.{Bool, true, false, not, true≢false}
use mathlib.Core.List.{List, [], ◌∷◌, ◌++◌, map}
use lib.Dec.{eqb, ltb}
use lib.ListN.{length, take, drop, length-map, length-drop}
use borrow.Rule.Slice.PartMut.{put_mid}
use borrow.Author.Tests.{eq-eqb}
use Rattle.rules.specs.Bytes.{every, bytes_of, parts, concat}
use Rattle.rules.specs.Reason.{first, code_of}
use Rattle.rules.specs.Frame.{Head, Update, WRITE, Command, on_tables, update_size, update_of}
use Rattle.rules.specs.Streams as streams
use Rattle.rules.specs.Answer.{Answer, answer_bytes}
use Rattle.rules.specs.Call.{unconfigured, write_reason, refusal, next_control, next_tables, next, batch_of, pair_of, head_reason, answer}
use Rattle.rules.specs.Update.{Batch}
use Rattle.rules.specs.Sound.{Sound}
use Rattle.rules.proofs.Formed.{EveryLength, whole-updates}
use Rattle.rules.proofs.Full.{batch-full}
use Rattle.rules.proofs.Sizes.{reasons-count}
use Rattle.buffers.specs.Splice.{splice}
use Rattle.batches.specs.declared.Written.{Written}
use Rattle.store.specs.Store.{tables_in}
use Rattle.batches.specs.Batch.{updates_in, batch_in, BatchApplied, StoreLeft, Pairs}
use Rattle.answers.proofs.AnswerBytes.{replies, fills, records-then-head}
use Rattle.calls.specs.Contract.{Correct}
use Rattle.memory.specs.declared.Agent.{Agent}
use Rattle.memory.specs.Layout.{control_of, Flat, memory, outcome}
use Rattle.memory.specs.Handles.{Handles, with_tables}
use Rattle.memory.proofs.Handled.{flat, flat-handles}

module _ (a : Agent) (h : Head) (atomicity : ℕ) where
  module _ (us : List Update) (store : List ℕ) where
    abbrev batched : Batch
    batched = batch_of (flat a store) h atomicity us

    abbrev asks : Command
    asks = on_tables (WRITE h atomicity us)

    -- the reason in the head, found from whether an update failed
    head-told : {f : Bool} (every : Bool) → f ≡ not every → ◌≡◌ {A = ℕ} (if f then 23 else 0) (if every then 0 else 23)
    head-told true p = rw p
    head-told false p = rw p

    pub was-written : (store' d out : List ℕ) (reason : ℕ) (w : Written) → write_reason (control_of a) h atomicity ≡ 0
        → BatchApplied batched store store' w → reason ≡ (if w.failed then 23 else 0)
        → out ≡ splice d 0 (answer_bytes (record { reason = reason; records = map pair_of batched.reasons }))
        → Correct Flat (flat a store) asks (memory a store) d (outcome (with_tables a w.tables) reason store' out)
    unfolding next next_control next_tables answer refusal
    was-written store' d out reason w e b q o =
        let told : reason ≡ head_reason batched.reasons = q ∙ head-told (every (eqb 0) batched.reasons) b.failed in
        let x : Answer = record { reason = head_reason batched.reasons; records = map pair_of batched.reasons } in
        let y : answer (flat a store) asks ≡ x = rw e in
        record {
          state = record { control = refl; tables = rw e (ap (λ (l : List (List ℕ)). record { entries = l }) b.left.holds) };
          returned = replies (flat a store) asks x y told;
          filled = fills (flat a store) asks x y d (λ z. let w : ◌≡◌ {A = ℕ} 0 1 = cc in omega arith)
              (o ∙ ap (λ (m : ℕ). splice d 0 (answer_bytes (record { reason = m; records = map pair_of batched.reasons }))) told);
          room = b.left.room;
          beyond = b.left.beyond;
          untouched = λ z. absurd (true≢false (sym (eq-eqb (write_reason (control_of a) h atomicity) 0 e) ∙ z));
        }

  -- one pair for each update
  pairs-count : (us : List (List ℕ)) (store : List ℕ) → length us ≡ length (map pair_of (batched (updates_in us) store).reasons)
  pairs-count us store =
      sym (length-map (batched (updates_in us) store).reasons pair_of
      ∙ reasons-count atomicity (control_of a).rows h.role (tables_in a.tables store) (updates_in us)
      ∙ length-map us update_of)

  -- where the tables are sound, an INSERT that passes 22 finds room: what the code makes of the updates is what the rules do
  by-rules : (us : List (List ℕ)) (store : List ℕ) → EveryLength update_size us → Sound (flat a store)
      → batch_in atomicity (control_of a).rows h.role us (tables_in a.tables store) ≡ batched (updates_in us) store
  by-rules us store long k =
      batch-full 2 (control_of a).rows h.role k.rows atomicity (tables_in a.tables store) (updates_in us) (whole-updates us long) k.tables

  -- a batch was taken, its pairs from byte 4 on, and then the head was written
  pub batch-written : (us : List (List ℕ)) (store store' d p out : List ℕ) (n reason : ℕ) (w : Written) → 4 ≤ length d
      → EveryLength update_size us → n ≡ length us → write_reason (control_of a) h atomicity ≡ 0
      → StoreLeft (batch_in atomicity (control_of a).rows h.role us) a.tables store store' w
      → Pairs (batch_in atomicity (control_of a).rows h.role us) a.tables store (take (length d - 4) (drop 4 d)) p
      → length p ≡ length (take (length d - 4) (drop 4 d)) → reason ≡ (if w.failed then 23 else 0)
      → out ≡ splice (put_mid 4 (length d - 4) d p) 0 (reason ∷ code_of reason ∷ bytes_of 2 n)
      → Handles (memory a store) (on_tables (WRITE h atomicity (updates_in us))) d (outcome (with_tables a w.tables) reason store' out)
  batch-written us store store' d p out n reason w room long m e left pairs same told o =
      flat-handles a (on_tables (WRITE h atomicity (updates_in us))) store d (λ k.
      let done = by-rules us store long k in
      was-written (updates_in us) store store' d out reason w e
      (subst (λ (b : Batch). BatchApplied b store store' w) done (left k.tables.distinct))
      told
      (records-then-head reason n (map pair_of (batched (updates_in us) store).reasons) d p out room
      (m ∙ pairs-count us store) same
      (pairs k.tables.distinct ∙ ap (λ (b : Batch). splice (take (length d - 4) (drop 4 d)) 0 (concat (map pair_of b.reasons))) done)
      o))
