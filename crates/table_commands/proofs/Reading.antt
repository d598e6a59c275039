-- A READ: its query in the frame, and the entries shown. Assumes nothing.
use Rattle.std.specs.Prelude.{if◌then◌else◌}
use Prim.Native.Nat.{ℕ, ◌*◌, ◌-◌, ◌≤◌}
use native.Mathlib.Omega.{arith}
use mathlib.Core.Path.{◌≡◌, refl, sym, ap, ap₂, ◌∙◌, subst}
use mathlib.Core.Bool.{Bool, true, false, not}
use mathlib.Core.List.{List, [], ◌∷◌, ◌++◌}
use lib.Dec.{eqb, ltb}
use lib.ListN.{length, take, drop, length-take, length-drop, length-append}
use lib.Seq.{take_all, take_at}
use borrow.Author.Tests.{eqb-true, eq-eqb}
use borrow.Rule.Slice.PartMut.{put_mid}
use Rattle.rules.specs.Bytes.{concat, number, part, bytes_of}
use Rattle.rules.specs.Reason.{first, code_of}
use Rattle.rules.specs.Frame as rules
use Rattle.rules.specs.Frame.{READ, on_tables}
use Rattle.rules.specs.Streams.{address_order}
use Rattle.rules.specs.Answer.{answer_bytes}
use Rattle.rules.specs.Call.{query_order, unconfigured, read_reason, refusal, next_control, next_tables, next, shown, answer}
use Rattle.rules.specs.Sound.{Sound}
use Rattle.rules.proofs.Formed.{Formed}
use Rattle.rules.proofs.Lists.{part-part}
use Rattle.rules.proofs.OneKey.{one_key}
use Rattle.rules.proofs.Sizes.{shown-sized}
use Rattle.buffers.specs.Splice.{splice}
use Rattle.buffers.proofs.Splice.{length-window}
use Rattle.answers.proofs.AnswerBytes.{records-then-head}
use Rattle.frames.specs.declared.Query.{Query}
use Rattle.frames.specs.declared.TableCommand.TheVariants.{Read}
use Rattle.frames.specs.Meaning.{query_read, OperandsThere}
use Rattle.store.specs.Store.{entries_in, tables_in}
use Rattle.reads.specs.Read.{key_in, read_in, Reads, ReadsQuery}
use Rattle.calls.specs.Contract.{Correct}
use Rattle.memory.specs.declared.Agent.{Agent}
use Rattle.memory.specs.Layout.{control_of, Flat, memory, outcome}
use Rattle.memory.specs.Handles.{Handles}
use Rattle.memory.proofs.Handled.{flat, flat-handles, store-stays}

-- ---- the query in the frame

-- the key, in the bytes from its table on
key-there : (q : Query) (f : List ℕ) {b : List ℕ} → b ≡ part 10 149 f → key_in b ≡ (query_read q f).key
key-there q f e =
    ap₂ (λ (x y : List ℕ). x ++ y) (ap (part 0 4) e ∙ part-part 10 149 0 4 f (omega arith))
    (ap (part 5 144) e ∙ part-part 10 149 5 144 f (omega arith))

-- whose bytes are those of the frame from 10 on
whole : (f : List ℕ) → length f ≡ 159 → take (length f - 10) (drop 10 f) ≡ part 10 149 f
whole f n = let e : length f - 10 ≡ 149 = omega arith in ap (λ (m : ℕ). take m (drop 10 f)) e

pub query-key : (q : Query) (f : List ℕ) → length f ≡ 159 → key_in (take (length f - 10) (drop 10 f)) ≡ (query_read q f).key
query-key q f n = key-there q f (whole f n)

-- what the reader has tested of it
query-formed : (q : Query) (f : List ℕ) → OperandsThere (Read q) f → Formed (on_tables (READ (query_read q f)))
query-formed q f h =
    let n : length f ≡ 159 = h.0 in
    let l : length (part 10 4 f) ≡ 4 = simp (length-take, length-drop) (omega arith) in
    (simp (length-append, length-take, length-drop) (omega arith), ap number (take_at (part 10 4 f) (part 15 144 f) 4 l) ∙ h.1, h.2)

module _ (a : Agent) (q : rules.Query) where
  -- ---- the entries

  was_read : (store d out : List ℕ) → read_reason (control_of a) q ≡ 0
      → out ≡ splice d 0 (answer_bytes (record { reason = 0; records = shown (flat a store) q }))
      → Correct Flat (flat a store) (on_tables (READ q)) (memory a store) d (outcome a 0 store out)
  unfolding next next_control next_tables answer refusal
  was_read store d out e o =
      store-stays a (on_tables (READ q)) store d out (λ z. let w : ◌≡◌ {A = ℕ} 0 1 = cc in omega arith) (tables_in a.tables store)
      (record { reason = 0; records = shown (flat a store) q }) (rw e) (record { control = refl; tables = refl }) refl o

  -- the entries that the store's reader takes are those shown
  taken : (store : List ℕ) → Formed (on_tables (READ q)) → Sound (flat a store) → read_reason (control_of a) q ≡ 0
      → read_in (control_of a).rows q.role q.table q.only q.key (tables_in a.tables store) ≡ shown (flat a store) q
  unfolding read_in shown refusal
  taken store f k e = go (eqb q.only 1) refl
    where
      go : (b : Bool) → eqb q.only 1 ≡ b
          → read_in (control_of a).rows q.role q.table q.only q.key (tables_in a.tables store) ≡ shown (flat a store) q
      go true o = rw o (sym (one_key (flat a store) q f k (eq-eqb (read_reason (control_of a) q) 0 e) (eqb-true q.only 1 o)) ∙ (rw o))
      go false o = rw o

-- where the records have room, all are written
reads_all : (es : List (List ℕ)) (before : List ℕ) {after : List ℕ} {n : ℕ} → 220 * length es ≤ length before
    → Reads es before after n → (n ≡ length es) × (after ≡ splice before 0 (concat es))
reads_all es before {after} {n} h r =
    let c : n ≡ length es = omega (arith, r.0) in
    (c, r.1 ∙ ap (λ (l : List (List ℕ)). splice before 0 (concat l)) (take_all n es (omega arith)))

-- the entries were written from byte 4 on, and then the head
module _ (a : Agent) (query : Query) (f store d p out : List ℕ) (n : ℕ) (h : OperandsThere (Read query) f) where
  abbrev asked : rules.Query
  asked = query_read query f

  pub entries-read : 57_344 ≤ length d → read_reason (control_of a) asked ≡ 0
      → ReadsQuery (control_of a).rows asked.role asked.table asked.only (key_in (take (length f - 10) (drop 10 f))) (entries_in a.tables store)
      (take (length d - 4) (drop 4 d)) p n
      → length p ≡ length (take (length d - 4) (drop 4 d)) → out ≡ splice (put_mid 4 (length d - 4) d p) 0 (0 ∷ code_of 0 ∷ bytes_of 2 n)
      → Handles (memory a store) (on_tables (READ asked)) d (outcome a 0 store out)
  entries-read room e read same o =
      flat-handles a (on_tables (READ asked)) store d (λ k.
      let es = shown (flat a store) asked in
      let z = shown-sized (flat a store) asked k in
      let w : length (take (length d - 4) (drop 4 d)) ≡ length d - 4 = length-window 4 (length d - 4) d (omega arith) in
      let all = reads_all es (take (length d - 4) (drop 4 d)) (omega (arith, z.1))
      (subst (λ (x : List (List ℕ)). Reads x (take (length d - 4) (drop 4 d)) p n)
      (ap (λ (key : List ℕ). read_in (control_of a).rows asked.role asked.table asked.only key (tables_in a.tables store))
      (query-key query f h.0) ∙ taken a asked store (query-formed query f h) k e)
      (read k.tables.distinct)) in
      was_read a asked store d out e (records-then-head 0 n es d p out (omega arith) all.0 same all.1 o))
