-- No list of calls reaches 24: what is stored is within the sizes of the rows, these add to 256 at most, and so an INSERT that passes 22
-- finds fewer than 256 entries. Judges that agree wherever the tables are sound leave and answer the same. Assumes nothing.
use Rattle.std.specs.Prelude.{if◌then◌else◌}
use Prim.Native.Nat.{ℕ, zero, suc, ◌+◌, ◌*◌, ◌<◌}
use mathlib.Core.Path.{◌≡◌, refl, sym, ◌∙◌, ap, subst}
use mathlib.Core.Bool.{Bool, true, false, ◌&&◌, not}
use mathlib.Core.Logic.{⊎_elim}
use mathlib.Core.Option.{Option, none, some}
use mathlib.Core.List.{List, [], ◌∷◌, map}
use native.Mathlib.Omega.{arith}
use lib.Dec.{eqb, leb}
use lib.ListN.{length, take, drop, set, replicate}
use borrow.Author.Tests.{eqb-true, eqb-false, ne_eqb, leb-false, lt-leb, not-false, not-true}
use Rattle.rules.specs.Bytes.{byte, every, concat, bytes_of}
use Rattle.rules.specs.Reason.{first, code_of}
use Rattle.rules.specs.Frame.{Head, Update, Command, too_short, malformed, WRITE, READ, on_streams, on_pipeline, on_tables}
use Rattle.rules.specs.Row.{Row, rows_allowed, known, row_for}
use Rattle.rules.specs.Key.{table_of}
use Rattle.rules.specs.Update.{Tables, Judge, is_insert, held, update_order, judge_by, judge, apply, Batch}
use Rattle.rules.specs.Update.{each_alone, one_further, failure, unless_failed, all_or_none, batch}
use Rattle.rules.specs.Answer.{answer_bytes, reply_of}
use Rattle.rules.specs.Call.{State, fresh, pair_of, TableOutcome}
use Rattle.rules.specs.Call.{table_command, refusal, accepted, next_control, next_tables, next, answer, reply, command_of, run}
use Rattle.rules.specs.Agreement.{commands_of, reply_after, pair_at}
use Rattle.rules.specs.Sound.{SoundTables, Sound}
use Rattle.rules.specs.Full.{full_order, judge_full_by, judge_full, judge24, pair24, table_command24, next24, reply24, run24, after24, reply_after24}
use Rattle.rules.specs.Full.{Unreached, NeverFull}
use Rattle.rules.proofs.Tests.{and-true, and-false}
use Rattle.rules.proofs.Orders.{first-clear, first-avoids, first_more}
use Rattle.rules.proofs.Formed.{Whole, whole-place, Formed, EveryFormed, call-formed, calls-formed}
use Rattle.rules.proofs.Rollback.{eqb-sym}
use Rattle.rules.proofs.Counting.{sizes-fit, room-left}
use Rattle.rules.proofs.Tables.{row-table, apply-sound, alone-sound}
use Rattle.rules.proofs.Sound.{next-sound, sound, fresh-agent}
use Rattle.rules.proofs.Sizes.{reasons-count}
use Rattle.rules.proofs.LookBack.{at-most-19, returned-own}

-- ---- two judges that agree where the tables are sound

-- what P says of the tables, k's updates keep, and where it holds the judges agree
module _ (P : Tables → Type 0) (j k : Judge) (agree : (t : Tables) (u : Update) → P t → j t u ≡ k t u)
    (kept : (t : Tables) (u : Update) → length u.entry ≡ 220 → P t → P (apply (k t u) u t)) where
  alone-same : (t : Tables) (us : List Update) → Whole us → P t → each_alone j t us ≡ each_alone k t us
  unfolding each_alone
  alone-same t [] w p = refl
  alone-same t (u ∷ us) w p =
      rw (agree t u p, alone-same (apply (k t u) u t) us w.1 (kept t u w.0 p)) refl

  failure-same : (t : Tables) (us : List Update) → Whole us → P t → failure j t us ≡ failure k t us
  unfolding failure
  failure-same t [] w p = refl
  failure-same t (u ∷ us) w p =
      rw (agree t u p, failure-same (apply (k t u) u t) us w.1 (kept t u w.0 p)) refl

  batch-same : (atomicity : ℕ) (t : Tables) (us : List Update) → Whole us → P t → batch atomicity j t us ≡ batch atomicity k t us
  unfolding batch all_or_none
  batch-same atomicity t us w p = rw (failure-same t us w p, alone-same t us w p) refl

-- ---- the judge that tests for a full store, and the one that does not

module _ (reason : ℕ) (rows : List Row) (role : ℕ) (allowed : rows_allowed rows ≡ true) where
  -- an INSERT that passes 22 finds room
  full-same : (t : Tables) (u : Update) → SoundTables rows t → judge_full reason rows role t u ≡ judge rows role t u
  unfolding judge_full judge_full_by judge judge_by first
  full-same t u ok = first_more order last refl ∙ go (eqb (first order) 0) refl
    where
      id : ℕ
      id = table_of u.entry

      row : Row
      row = row_for id rows

      order : List (Bool × ℕ)
      order = update_order (known id rows) row role t u

      last : List (Bool × ℕ)
      last = full_order reason u.type t

      room : is_insert u.type ≡ true → first order ≡ 0 → length t.entries < 256
      room i z =
          let c = first-clear order refl z in
          let k : known id rows ≡ true = not-false _ c.1.0 in
          let full : leb row.size (held row.table t) ≡ false = and-false _ _ c.1.1.1.1.1.1.1.1.0 i in
          let less : held row.table t < row.size = leb-false _ _ full in
          let below : held id t < row.size = rw (row-table id rows k) at less in
          omega (arith, room-left rows t id ok.known-tables ok.within k below, sizes-fit rows allowed)

      not_full : (i : Bool) → is_insert u.type ≡ i → first order ≡ 0 → i && leb 256 (length t.entries) ≡ false
      not_full true q z = lt-leb 256 (length t.entries) (room q z)
      not_full false q z = refl

      go : (b : Bool) → eqb (first order) 0 ≡ b → (if b then first last else first order) ≡ first order
      go true q = let z = eqb-true (first order) 0 q in rw (not_full (is_insert u.type) refl z) (sym z)
      go false q = refl

  pub alone-full : (t : Tables) (us : List Update) → Whole us → SoundTables rows t
      → each_alone (judge_full reason rows role) t us ≡ each_alone (judge rows role) t us
  alone-full = alone-same (SoundTables rows) _ _ full-same (apply-sound rows allowed role)

  pub batch-full : (atomicity : ℕ) (t : Tables) (us : List Update) → Whole us → SoundTables rows t
      → batch atomicity (judge_full reason rows role) t us ≡ batch atomicity (judge rows role) t us
  batch-full = batch-same (SoundTables rows) _ _ full-same (apply-sound rows allowed role)

-- ---- 24 is in no order

abbrev other : ℕ → Bool
other reason = not (eqb reason 24)

not-24 : (rows : List Row) (role : ℕ) (t : Tables) (u : Update) → judge rows role t u ≡ 24 → ⊥
unfolding judge judge_by
not-24 rows role t u e = first-avoids 24 _ (omega arith) refl e

module _ (j : Judge) (never : (t : Tables) (u : Update) → j t u ≡ 24 → ⊥) where
  alone-other : (t : Tables) (us : List Update) → every other (each_alone j t us).reasons ≡ true
  unfolding each_alone
  alone-other t [] = refl
  alone-other t (u ∷ us) = rw (ne_eqb (j t u) 24 (never t u)) (alone-other (apply (j t u) u t) us)

  abbrev Other : Option (ℕ × ℕ) → Type 0
  Other none = Unit {0}
  Other (some f) = other f.1 ≡ true

  failure-other : (t : Tables) (us : List Update) → Other (failure j t us)
  unfolding failure
  failure-other t [] = tt
  failure-other t (u ∷ us) = go (eqb (j t u) 0) (failure j (apply (j t u) u t) us) (failure-other (apply (j t u) u t) us)
    where
      go : (b : Bool) (o : Option (ℕ × ℕ)) → Other o → Other (if b then one_further o else some (0, j t u))
      go true none h = tt
      go true (some f) h = h
      go false o h = rw (ne_eqb (j t u) 24 (never t u)) refl

  batch-other : (atomicity : ℕ) (t : Tables) (us : List Update) → every other (batch atomicity j t us).reasons ≡ true
  unfolding batch all_or_none
  batch-other atomicity t us = go (eqb atomicity 1) (failure j t us) (failure-other t us)
    where
      set_other : (n i r : ℕ) → other r ≡ true → every other (set (replicate n 25) i r) ≡ true
      set_other zero i r h = refl
      set_other (suc n) zero r h = rw h (all n)
        where
          all : (n : ℕ) → every other (replicate n 25) ≡ true
          all zero = refl
          all (suc n) = all n
      set_other (suc n) (suc i) r h = set_other n i r h

      go : (b : Bool) (o : Option (ℕ × ℕ)) → Other o
          → every other (if b then unless_failed o t us (each_alone j t us) else each_alone j t us).reasons ≡ true
      go true none h = alone-other t us
      go true (some f) h = set_other (length us) f.0 f.1 h
      go false o h = alone-other t us

-- so the codes of the reasons that are given are the same with 24 in the table
pairs-same : (reasons : List ℕ) → every other reasons ≡ true → map pair24 reasons ≡ map pair_of reasons
unfolding code_of
pairs-same [] h = refl
pairs-same (r ∷ reasons) h =
    let q = and-true (other r) (every other reasons) h in
    rw (eqb-sym 24 r, not-true (eqb r 24) q.0, pairs-same reasons q.1) refl

-- and the pairs that are written have other reasons
other-pair : (reasons : List ℕ) (i : ℕ) → i < length reasons → every other reasons ≡ true
    → byte 0 (take 2 (drop (2 * i) (concat (map pair_of reasons)))) ≡ 24 → ⊥
other-pair [] i l h e = omega arith
other-pair (r ∷ reasons) zero l h e =
    eqb-false r 24 (not-true (eqb r 24) (and-true (other r) (every other reasons) h).0) e
other-pair (r ∷ reasons) (suc i) l h e =
    let k : 2 * suc i ≡ suc (suc (2 * i)) = omega arith in
    other-pair reasons i (omega arith) (and-true (other r) (every other reasons) h).1 (rw k at e)

-- after the head of an answer
pair-after-head : (i reason : ℕ) (records : List (List ℕ))
    → pair_at i (answer_bytes (record { reason = reason; records = records })) ≡ take 2 (drop (2 * i) (concat records))
unfolding pair_at answer_bytes bytes_of
pair-after-head i reason records =
    let k : 4 + 2 * i ≡ suc (suc (suc (suc (2 * i)))) = omega arith in
    rw k refl

pair-not-24 : (s : State) (h : Head) (atomicity : ℕ) (us : List Update) → accepted s (on_tables (WRITE h atomicity us)) ≡ true
    → (i : ℕ) → i < length us → byte 0 (pair_at i (reply s (on_tables (WRITE h atomicity us))).written) ≡ 24 → ⊥
unfolding reply reply_of answer refusal
pair-not-24 s h atomicity us a i l e = go (every (eqb 0) reasons) (rw a at e)
  where
    j : Judge
    j = judge s.control.rows h.role

    reasons : List ℕ
    reasons = (batch atomicity j s.tables us).reasons

    written : (reason : ℕ) → byte 0 (pair_at i (answer_bytes (record { reason = reason; records = map pair_of reasons }))) ≡ 24 → ⊥
    written reason q =
        other-pair reasons i (omega (arith, reasons-count atomicity s.control.rows h.role s.tables us))
        (batch-other j (not-24 s.control.rows h.role) atomicity s.tables us)
        (ap (byte 0) (sym (pair-after-head i reason (map pair_of reasons))) ∙ q)

    go : (b : Bool) → byte 0 (pair_at i (reply_of (record { reason = if b then 0 else 23; records = map pair_of reasons })).written) ≡ 24 → ⊥
    go true q = written 0 q
    go false q = written 23 q

-- no call returns it: its own reason is up to 19, or it is 23
not-returned : (s : State) (c : Command) → (reply s c).returned ≡ 24 → ⊥
not-returned s c e = ⊎_elim (λ q. omega (arith, at-most-19 s c)) (λ q. omega (arith, q.0)) (returned-own s c)

-- ---- calls, and lists of them

write_same : (s : State) (h : Head) (atomicity : ℕ) (us : List Update) → Whole us → Sound s
    → table_command24 s (WRITE h atomicity us) ≡ table_command s (WRITE h atomicity us)
write_same s h atomicity us w ok =
    let j : Judge = judge s.control.rows h.role in
    let others = batch-other j (not-24 s.control.rows h.role) atomicity s.tables us in
    rw (batch-full 24 s.control.rows h.role ok.rows atomicity s.tables us w ok.tables, pairs-same _ others) refl

next-same : (s : State) (c : Command) → Formed c → Sound s → next24 s c ≡ next s c
unfolding next24 next next_control next_tables
next-same s too_short f ok = refl
next-same s malformed f ok = refl
next-same s (on_streams x) f ok = refl
next-same s (on_pipeline x) f ok = refl
next-same s (on_tables (WRITE h atomicity us)) f ok = ap left (write_same s h atomicity us f.1 ok)
  where
    left : TableOutcome → State
    left o = record { control = s.control; tables = o.tables }
next-same s (on_tables (READ q)) f ok = refl

reply-same : (s : State) (c : Command) → Formed c → Sound s → reply24 s c ≡ reply s c
unfolding reply24 reply answer
reply-same s too_short f ok = refl
reply-same s malformed f ok = refl
reply-same s (on_streams x) f ok = refl
reply-same s (on_pipeline x) f ok = refl
reply-same s (on_tables (WRITE h atomicity us)) f ok = ap (λ (o : TableOutcome). reply_of o.answer) (write_same s h atomicity us f.1 ok)
reply-same s (on_tables (READ q)) f ok = refl

run-same : (s : State) (cs : List Command) → EveryFormed cs → Sound s → run24 s cs ≡ run s cs
unfolding run24 run
run-same s [] f ok = refl
run-same s (c ∷ cs) f ok =
    ap (λ (x : State). run24 x cs) (next-same s c f.0 ok) ∙ run-same (next s c) cs f.1 (next-sound s c f.0 ok)

-- an update after the earlier ones of its batch
unreached : (s : State) (role : ℕ) (earlier : List Update) (u : Update) → Whole earlier → Sound s
    → Unreached s.control.rows role (each_alone (judge24 s.control.rows role) s.tables earlier).tables u
unreached s role earlier u w ok = record { never = λ e. not-24 rows role t u (sym same ∙ e); same = same }
  where
    rows : List Row
    rows = s.control.rows

    t : Tables
    t = (each_alone (judge24 rows role) s.tables earlier).tables

    same : judge24 rows role t u ≡ judge rows role t u
    same = full-same 24 rows role ok.rows t u
        (subst (λ (b : Batch). SoundTables rows b.tables) (sym (alone-full 24 rows role ok.rows s.tables earlier w ok.tables))
        (alone-sound rows ok.rows role s.tables earlier w ok.tables))

pub never-full : NeverFull
unfolding reply_after reply_after24
never-full room device before c = record {
  updates = λ h atomicity earlier u later e.
      let w = whole-place earlier u later (subst Formed e (call-formed room c)).1 in
      subst
      (λ (x : State). Unreached x.control.rows h.role
      (each_alone (judge24 x.control.rows h.role) x.tables earlier).tables u) (sym state)
      (unreached s h.role earlier u w.0 ok);
  replies = ap (λ (x : State). reply24 x (command_of room c)) state ∙ reply-same s (command_of room c) (call-formed room c) ok;
  state = state;
  no-head = not-returned s (command_of room c);
  no-pair = no-pair;
}
  where
    s : State
    s = run (fresh device) (commands_of room before)

    ok : Sound s
    ok = sound room device before

    state : after24 room device before ≡ s
    state = run-same (fresh device) (commands_of room before) (calls-formed room before) (fresh-agent device)

    no-pair : (h : Head) (atomicity : ℕ) (us : List Update) → command_of room c ≡ on_tables (WRITE h atomicity us)
        → accepted s (command_of room c) ≡ true → (i : ℕ) → i < length us
        → byte 0 (pair_at i (reply s (command_of room c)).written) ≡ 24 → ⊥
    no-pair h atomicity us e a i l q =
        pair-not-24 s h atomicity us (subst (λ (x : Command). accepted s x ≡ true) e a) i l
        (ap (λ (x : Command). byte 0 (pair_at i (reply s x).written)) (sym e) ∙ q)
