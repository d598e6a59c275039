-- Right because the update is judged before it is done, noted as it will be done, and its pair says what was judged. Assumes nothing.
use Prim.Native.Nat.{ℕ, ◌+◌, ◌*◌, ◌-◌, ◌≤◌}
use native.Mathlib.Omega.{arith}
use mathlib.Core.Path.{◌≡◌, refl, ap, ◌∙◌}
use mathlib.Core.List.{List, []}
use Rattle.std.specs.Prelude.{Result, Ok, Err}
use Rattle.std.specs.Result.{result_and}
use Rattle.std.proofs.lemmas.Result.{err_from_is_err_and}
use lib.ListN.{length, get_or}
use borrow.Rule.Slice.PartMut.{put_mid}
use Rattle.rules.specs.Bytes.{byte, part}
use Rattle.rules.specs.Call.{pair_of}
use Rattle.rules.specs.Frame.{update_of}
use Rattle.rules.specs.Named.{number_of, reason_of}
use Rattle.rules.specs.declared.Reason.{Reason}
use Rattle.rules.proofs.Formed.{parts-count}
use Rattle.rows.specs.Meaning.{rows_of}
use Rattle.buffers.specs.Splice.{splice}
use Rattle.buffers.proofs.Splice.{part-copied}
use Rattle.store.specs.Store.{entries_in, tables_in}
use Rattle.judging.specs.Verdict.{judge_in}
use Rattle.rules.proofs.Named.{named}
use Rattle.changes.specs.Undo.{noted}
use Rattle.changes.proofs.Effects.{refused}
use Rattle.changes.proofs.Undoing.{undo-after-apply}
use Rattle.batches.proofs.step.Goals as goal

-- what an update came to has the number of what was judged of it
numbered : {A B : Type 0} (v : Result A Reason) (b : B) → reason_of (result_and v (Ok b)) ≡ reason_of v
numbered (Ok a) b = refl
numbered (Err r) b = refl

-- pair i of an answer with room for it, once a reason is written at the start of what comes from there on
paired : (x d : List ℕ) {n : ℕ} (r i : ℕ) → 2 * i + 2 ≤ length x → n ≡ r → d ≡ splice (part (2 * i) (length x - 2 * i) x) 0 (pair_of n)
    → put_mid (2 * i) (length x - 2 * i) x d ≡ splice x (2 * i) (pair_of r)
paired x d r i room its e = part-copied x d (pair_of r) (2 * i) (length x - 2 * i) (rw its at e) (omega arith) (omega arith)

pub returns-in_err-judged : goal.returns-in_err-judged
returns-in_err-judged c =
    let a = c.args in
    let e = c.in_err-judged in
    let u : List ℕ = a.update.now in
    let p = err_from_is_err_and c.from_residual.result c.from_residual.ensures.1 in
    let r : ℕ = number_of e.field-0.0 in
    let n : r ≡ 0 → ⊥ = λ z. let some = named e.field-0.0 in omega (arith, some, z) in
    rw (p.1, p.2) (record {
      reason = e.ensures.reason
          ∙ ap (λ (es : List (List ℕ)). judge_in (rows_of a.rows.now) a.role (record { entries = es }) (update_of u)) c.entries.ensures.entries;
      pair = paired a.answer.now c.write_pair.new.out r a.i c.requires.2
          (ap reason_of c.and.ensures ∙ numbered c.judge-judged.result tt ∙ ap reason_of e.was) c.write_pair.ensures;
      few = c.requires.0.0;
      left = λ d.
          rw (refused r (update_of u) (tables_in a.tables a.store.now) n)
          (record { holds = refl; few = c.requires.0.0; room = refl; beyond = refl });
      noted = λ one z. absurd (n z);
      refused = λ m. (refl, refl, refl);
    })

pub returns : goal.returns
returns c =
    let a = c.args in
    let u : List ℕ = a.update.now in
    let es : List (List ℕ) = entries_in a.tables a.store.now in
    let v = c.judge-judged.result in
    let did = c.apply.ensures in
    let zero : reason_of v ≡ 0 = ap reason_of c.in_ok-judged.was in
    let justified = rw c.entries.ensures.entries at c.judge-judged.ensures.justified in
    let few : length es ≤ 256 = omega (arith, c.requires.0.0, parts-count a.tables.count 220 a.store.now) in
    record {
      reason = c.in_ok-judged.ensures.reason
          ∙ ap (λ (es : List (List ℕ)). judge_in (rows_of a.rows.now) a.role (record { entries = es }) (update_of u)) c.entries.ensures.entries;
      pair = paired a.answer.now c.write_pair.new.out 0 a.i c.requires.2
          (ap reason_of c.and.ensures ∙ numbered v tt ∙ zero) c.write_pair.ensures;
      few = did.done.few;
      left = λ d. rw zero at (did.left number_of d justified);
      noted = λ one z. record {
        note = noted v es (get_or a.log.now a.i []);
        bytes = c.note_update.ensures one;
        undoing = rw did.done.holds (undo-after-apply number_of v (byte 0 u) u es (get_or a.log.now a.i []) few c.told-update zero justified);
      };
      refused = λ n. absurd (n refl);
    }
