-- The rules and looking back agree: the entries stored are at each call the entries present, and so is every answer.
-- Assumes nothing.
use Rattle.std.specs.Prelude.{if◌then◌else◌}
use Prim.Native.Nat.{ℕ, ◌≤◌}
use mathlib.Core.Path.{◌≡◌, refl, sym, ◌∙◌, ap, ap₂, fun_ext, subst}
use mathlib.Core.Bool.{Bool, true, false, ◌&&◌, ◌||◌, not, and-true, or-false as or-none}
use mathlib.Core.Logic.{◌⊎◌, inl, inr, ⊎_elim, ◌↔◌}
use mathlib.Core.List.{List, [], ◌∷◌, ◌++◌, map}
use mathlib.Core.Option.{Option, none, some}
use native.Mathlib.Omega.{arith}
use lib.Dec.{eqb}
use lib.ListN.{length, replicate}
use borrow.Author.Tests.{eqb-true, eq-eqb}
use Rattle.rules.specs.Bytes.{keep, every, concat, same}
use Rattle.rules.specs.Reason.{first}
use Rattle.rules.specs.Frame.{Head, Update, Query, Command, too_short, malformed, OPEN, CLOSE}
use Rattle.rules.specs.Frame.{ARBITRATE, CONFIGURE, WRITE, READ, on_streams, on_pipeline, on_tables}
use Rattle.rules.specs.Streams.{Stream, closed, unbound, bound, order_of, stream_at, open_stream, close_stream, arbitrate_reason, arbitrate}
use Rattle.rules.specs.Row.{Row, may_write}
use Rattle.rules.specs.Key.{key_of, has_key, short_key, table_of}
use Rattle.rules.specs.Entry.{short_entry}
use Rattle.rules.specs.Update.{Tables, no_entries, in_table, judge, perform, apply, each_alone}
use Rattle.rules.specs.Update.{one_further, failure, rolled_back, unless_failed, all_or_none, batch}
use Rattle.rules.specs.Answer.{Answer, reply_of}
use Rattle.rules.specs.Call.{State, Call, fresh, configure_reason, write_reason, read_reason, refusal, accepted, next_control, next_tables}
use Rattle.rules.specs.Call.{next, plain, pair_of, head_reason, batch_of, asked, gathered, shown, answer, command_of, reply, run}
use Rattle.rules.specs.LookBack.{Effect, inserted, modified, deleted, cleared, revise, present, History, nothing, state_seen, effect_of}
use Rattle.rules.specs.LookBack.{reason_at, succeeds, with_update, with_updates, some_fails, took_effect, with_batch, effects_with, with_call}
use Rattle.rules.specs.LookBack.{look_back, pairs_alone, pairs_rolled_back, pairs_seen, named, asks_for, read_seen, answer_seen, reply_seen}
use Rattle.rules.specs.Agreement.{commands_of, reply_after, history_of, pair_at, Agreement}
use Rattle.rules.proofs.Tests.{same-sym}
use Rattle.rules.proofs.Rollback.{eqb-sym, rollback}
use Rattle.rules.proofs.Orders.{first-most}
use Rattle.rules.proofs.Effects.{take_effect, present-snoc}
use Rattle.rules.proofs.PairsAndEffects.{seen_at, pair-zero, update-pair}

-- ---- updates

-- an update does to the entries what its effect does
effect_is : (u : Update) (t : Tables) → (perform u t).entries ≡ take_effect (effect_of u) t.entries
unfolding perform take_effect revise
effect_is u t = go (eqb u.type 1) (eqb u.type 2)
  where
    e : List ℕ
    e = short_entry u.entry

    k : List ℕ
    k = short_key u.entry

    changed : map (λ (old : List ℕ). if has_key (key_of e) old then e else old) t.entries ≡ take_effect (modified e) t.entries
    changed = ap (λ f. map f t.entries) (fun_ext (λ (old : List ℕ). ap (λ (b : Bool). if b then e else old) (same-sym (key_of old) (key_of e))))

    removed : keep (λ (old : List ℕ). not (has_key k old)) t.entries ≡ take_effect (deleted k) t.entries
    removed = ap (λ f. keep f t.entries) (fun_ext (λ (old : List ℕ). ap not (same-sym (key_of old) k)))

    go : (a b : Bool)
        → (if a then t.entries ++ (e ∷ []) else
        if b then map (λ (old : List ℕ). if has_key (key_of e) old then e else old) t.entries else
        keep (λ (old : List ℕ). not (has_key k old)) t.entries)
        ≡ take_effect (if a then inserted e else if b then modified e else deleted k) t.entries
    go true b = refl
    go false true = changed
    go false false = removed

-- one update more, and a batch: what looking back notes is what the rules leave
noted-update : (p : History) (role : ℕ) (u : Update) → (state_seen (with_update p role u)).tables ≡ apply (reason_at p role u) u (state_seen p).tables
unfolding state_seen with_update apply succeeds
noted-update p role u = go (eqb (reason_at p role u) 0)
  where
    t : Tables
    t = record { entries = present p.effects }

    go : (b : Bool)
        → ◌≡◌ {A = Tables} (record { entries = present (if b then p.effects ++ (effect_of u ∷ []) else p.effects) })
        (if b then perform u t else t)
    go true = ap (λ es. record { entries = es }) (present-snoc p.effects (effect_of u) ∙ sym (effect_is u t))
    go false = refl

-- a batch over the entries that looking back shows
module _ (role : ℕ) where
  abbrev rows_of : History → List Row
  rows_of p = p.control.rows

  and-or : (a b : Bool) → a && not b ≡ not (not a || b)
  and-or true b = refl
  and-or false b = refl

  -- each update alone
  abbrev Alone : History → Tables → List Update → Type 0
  Alone p t us =
      ((each_alone (judge (rows_of p) role) t us).tables ≡ (state_seen (with_updates p role us)).tables)
      × (map pair_of (each_alone (judge (rows_of p) role) t us).reasons ≡ pairs_alone p role us)
      × (every (eqb 0) (each_alone (judge (rows_of p) role) t us).reasons ≡ not (some_fails p role us))

  alone : (p : History) (us : List Update) → Alone p (state_seen p).tables us
  unfolding each_alone with_updates pairs_alone some_fails reason_at succeeds with_update
  alone p [] = (refl, refl, refl)
  alone p (u ∷ us) =
      let r : ℕ = reason_at p role u in
      let q : History = with_update p role u in
      let g : Alone q (apply r u (state_seen p).tables) us = subst (λ (t : Tables). Alone q t us) (noted-update p role u) (alone q us) in
      (g.0, ap (λ l. pair_of r ∷ l) g.1, ap₂ ◌&&◌ (eqb-sym 0 r) g.2 ∙ and-or (eqb r 0) (some_fails q role us))

  -- the first update that fails, if any
  abbrev Failing : Option (ℕ × ℕ) → History → List Update → Type 0
  Failing none p us = some_fails p role us ≡ false
  Failing (some f) p us =
      (some_fails p role us ≡ true)
      × (map pair_of (rolled_back (length us) f) ≡ pairs_rolled_back p role us)
      × (every (eqb 0) (rolled_back (length us) f) ≡ false)

  all-25 : (us : List Update) → map pair_of (replicate (length us) 25) ≡ map (λ (v : Update). pair_of 25) us
  all-25 [] = refl
  all-25 (u ∷ us) = ap (λ l. pair_of 25 ∷ l) (all-25 us)

  module _ (p : History) (u : Update) (us : List Update) where
    passing : succeeds p role u ≡ true
        → (some_fails p role (u ∷ us) ≡ some_fails (with_update p role u) role us)
        × (pairs_rolled_back p role (u ∷ us) ≡ pair_of 25 ∷ pairs_rolled_back (with_update p role u) role us)
    unfolding some_fails pairs_rolled_back
    passing e = rw e (refl, refl)

    first-failing : succeeds p role u ≡ false
        → (some_fails p role (u ∷ us) ≡ true) × (pairs_rolled_back p role (u ∷ us) ≡ pair_of (reason_at p role u) ∷ map (λ (v : Update). pair_of 25) us)
    unfolding some_fails pairs_rolled_back
    first-failing e = rw e (refl, refl)

  failing : (p : History) (us : List Update) → Failing (failure (judge (rows_of p) role) (state_seen p).tables us) p us
  unfolding failure some_fails pairs_rolled_back reason_at succeeds with_update
  failing p [] = refl
  failing p (u ∷ us) =
      go (eqb r 0) refl (failure (judge (rows_of p) role) (apply r u (state_seen p).tables) us)
      (subst (λ (t : Tables). Failing (failure (judge (rows_of p) role) t us) q us) (noted-update p role u) (failing q us))
    where
      r : ℕ
      r = reason_at p role u

      q : History
      q = with_update p role u

      go : (b : Bool) → eqb r 0 ≡ b → (o : Option (ℕ × ℕ)) → Failing o q us → Failing (if b then one_further o else some (0, r)) p (u ∷ us)
      go true e none h = (passing p u us e).0 ∙ h
      go true e (some f) h =
          let z = passing p u us e in
          (z.0 ∙ h.0, ap (λ l. pair_of 25 ∷ l) h.1 ∙ sym z.1, refl)
      go false e o h =
          let z = first-failing p u us e in
          (z.0, ap (λ l. pair_of r ∷ l) (all-25 us) ∙ sym z.1, ap (λ (b : Bool). b && every (eqb 0) (replicate (length us) 25)) (eqb-sym 0 r ∙ e))

  -- a batch of either atomicity
  abbrev Batched : History → ℕ → List Update → Type 0
  Batched p atomicity us =
      ((batch atomicity (judge (rows_of p) role) (state_seen p).tables us).tables ≡ (state_seen (with_batch p role atomicity us)).tables)
      × (map pair_of (batch atomicity (judge (rows_of p) role) (state_seen p).tables us).reasons ≡ pairs_seen p role atomicity us)
      × (every (eqb 0) (batch atomicity (judge (rows_of p) role) (state_seen p).tables us).reasons ≡ not (some_fails p role us))

  batched : (p : History) (atomicity : ℕ) (us : List Update) → Batched p atomicity us
  unfolding batch all_or_none with_batch pairs_seen
  batched p atomicity us = go (eqb atomicity 1) (failure (judge (rows_of p) role) t us) (failing p us)
    where
      t : Tables
      t = (state_seen p).tables

      go : (b : Bool) (o : Option (ℕ × ℕ)) → Failing o p us →
          let x = if b then unless_failed o t us (each_alone (judge (rows_of p) role) t us) else each_alone (judge (rows_of p) role) t us in
          (x.tables ≡ (state_seen (if b && some_fails p role us then p else with_updates p role us)).tables)
          × (map pair_of x.reasons ≡ (if b && some_fails p role us then pairs_rolled_back p role us else pairs_alone p role us))
          × (every (eqb 0) x.reasons ≡ not (some_fails p role us))
      go true none h = let g = alone p us in (rw h g.0, rw h g.1, g.2)
      go true (some f) h = (rw h.0, rw h.0 h.1, rw h.0 h.2)
      go false o h = alone p us

pub alone-shows : (p : History) (role : ℕ) (us : List Update)
    → (each_alone (judge p.control.rows role) (state_seen p).tables us).tables ≡ (state_seen (with_updates p role us)).tables
alone-shows p role us = (alone role p us).0

-- an update changes no row
pub noted-control : (p : History) (role : ℕ) (us : List Update) → (with_updates p role us).control ≡ p.control
unfolding with_updates with_update
noted-control p role [] = refl
noted-control p role (u ∷ us) = noted-control (with_update p role u) role us

-- ---- READ

keep-none : (es : List (List ℕ)) → keep (λ (e : List ℕ). false) es ≡ []
keep-none [] = refl
keep-none (e ∷ es) = keep-none es

pub keep-keep : (p q : List ℕ → Bool) (es : List (List ℕ)) → keep (λ (e : List ℕ). p e && q e) es ≡ keep q (keep p es)
keep-keep p q [] = refl
keep-keep p q (e ∷ es) = go (p e) (keep-keep p q es)
  where
    go : (b : Bool) → keep (λ (e : List ℕ). p e && q e) es ≡ keep q (keep p es)
        → (if b && q e then e ∷ keep (λ (e : List ℕ). p e && q e) es else keep (λ (e : List ℕ). p e && q e) es)
        ≡ keep q (if b then e ∷ keep p es else keep p es)
    go true h = ap (λ l. if q e then e ∷ l else l) h
    go false h = h

keep_append : (p : List ℕ → Bool) (xs ys : List (List ℕ)) → keep p (xs ++ ys) ≡ keep p xs ++ keep p ys
keep_append p [] ys = refl
keep_append p (x ∷ xs) ys = go (p x) (keep_append p xs ys)
  where
    go : (b : Bool) → keep p (xs ++ ys) ≡ keep p xs ++ keep p ys
        → (if b then x ∷ keep p (xs ++ ys) else keep p (xs ++ ys)) ≡ (if b then x ∷ keep p xs else keep p xs) ++ keep p ys
    go true h = ap (λ l. x ∷ l) h
    go false h = h

-- the two ways to say which rows a READ asks for
same_rows : (q : Query) (row : Row)
    → (named q && eqb row.table q.table) || (not (named q) && may_write q.role row) ≡ asked q.role q.table row
same_rows q row = go (eqb q.table 0)
  where
    go : (b : Bool) → (not b && eqb row.table q.table) || (not (not b) && may_write q.role row)
        ≡ (if b then may_write q.role row else eqb row.table q.table)
    go true = refl
    go false = or-none (eqb row.table q.table)

-- what a READ takes of a list of entries, where it asks for one key
abbrev narrowed : Bool → List ℕ → List (List ℕ) → List (List ℕ)
narrowed one k es = if one then keep (has_key k) es else es

narrowed-append : (one : Bool) (k : List ℕ) (xs ys : List (List ℕ)) → narrowed one k (xs ++ ys) ≡ narrowed one k xs ++ narrowed one k ys
narrowed-append true k xs ys = keep_append (has_key k) xs ys
narrowed-append false k xs ys = refl

narrowed-nil : (one : Bool) (k : List ℕ) → narrowed one k [] ≡ []
narrowed-nil true k = refl
narrowed-nil false k = refl

-- of one row
row_seen : (a one : Bool) (t : ℕ) (k : List ℕ) (es : List (List ℕ))
    → keep (λ (e : List ℕ). a && eqb (table_of e) t && (not one || same (key_of e) k)) es
    ≡ (if a then narrowed one k (keep (in_table t) es) else [])
row_seen true true t k es = keep-keep (in_table t) (has_key k) es
row_seen true false t k es = ap (λ f. keep f es) (fun_ext (λ (e : List ℕ). and-true (in_table t e)))
row_seen false one t k es = keep-none es

-- of every row
abbrev all : Query → List Row → List (List ℕ) → List (List ℕ)
all q rows es = gathered q.role q.table rows (record { entries = es })

rows_seen : (q : Query) (rows : List Row) (es : List (List ℕ)) → narrowed (eqb q.only 1) (short_key q.key) (all q rows es) ≡ read_seen rows q es
unfolding read_seen
rows_seen q [] es = narrowed-nil (eqb q.only 1) (short_key q.key)
rows_seen q (row ∷ rows) es = go (asked q.role q.table row) refl (rows_seen q rows es)
  where
    one : Bool
    one = eqb q.only 1

    k : List ℕ
    k = short_key q.key

    mine : List (List ℕ)
    mine = keep (in_table row.table) es

    seen : keep (asks_for q row) es ≡ (if asked q.role q.table row then narrowed one k mine else [])
    seen =
        ap (λ (a : Bool). keep (λ (e : List ℕ). a && eqb (table_of e) row.table && (not one || same (key_of e) k)) es) (same_rows q row)
        ∙ row_seen (asked q.role q.table row) one row.table k es

    go : (b : Bool) → asked q.role q.table row ≡ b → narrowed one k (all q rows es) ≡ read_seen rows q es
        → narrowed one k (concat (map (λ (r : Row). keep (in_table r.table) es)
        (if b then row ∷ keep (asked q.role q.table) rows else keep (asked q.role q.table) rows)))
        ≡ keep (asks_for q row) es ++ read_seen rows q es
    go true h ih = narrowed-append one k mine (all q rows es) ∙ ap₂ ◌++◌ (sym (seen ∙ ap (λ (b : Bool). if b then narrowed one k mine else []) h)) ih
    go false h ih = ih ∙ ap (λ l. l ++ read_seen rows q es) (sym (seen ∙ ap (λ (b : Bool). if b then narrowed one k mine else []) h))

-- the records of a READ
pub shown-seen : (p : History) (q : Query) → shown (state_seen p) q ≡ read_seen p.control.rows q (present p.effects)
unfolding shown state_seen
shown-seen p q = rows_seen q p.control.rows (present p.effects)

-- ---- a call

answers_agree : (p : History) (c : Command) → answer (state_seen p) c ≡ answer_seen p c
unfolding answer answer_seen state_seen refusal
answers_agree p too_short = refl
answers_agree p malformed = refl
answers_agree p (on_streams x) = refl
answers_agree p (on_pipeline x) = refl
answers_agree p (on_tables (WRITE h atomicity us)) = rw (b.1, b.2) (go (some_fails p h.role us))
  where
    b : Batched h.role p atomicity us
    b = batched h.role p atomicity us

    told : ℕ → Answer
    told reason =
        if accepted (state_seen p) (on_tables (WRITE h atomicity us)) then record { reason = reason; records = pairs_seen p h.role atomicity us } else
        plain (refusal (state_seen p) (on_tables (WRITE h atomicity us)))

    go : (t : Bool) → told (if not t then 0 else 23) ≡ told (if t then 23 else 0)
    go true = refl
    go false = refl
answers_agree p (on_tables (READ q)) = rw (shown-seen p q)

-- what is left of the entries, and of the whole agent
unnoted : (b : Bool) (effects : List Effect) → present effects ≡ present (if b then effects else effects)
unnoted true effects = refl
unnoted false effects = refl

tables_agree : (p : History) (c : Command)
    → (next_tables (state_seen p) c).entries ≡ present (if accepted (state_seen p) c then effects_with p c else p.effects)
unfolding next_tables effects_with state_seen take_effect refusal
tables_agree p too_short = unnoted (accepted (state_seen p) too_short) p.effects
tables_agree p malformed = unnoted (accepted (state_seen p) malformed) p.effects
tables_agree p (on_streams x) = unnoted (accepted (state_seen p) (on_streams x)) p.effects
tables_agree p (on_pipeline (CONFIGURE h rows)) = go (accepted (state_seen p) (on_pipeline (CONFIGURE h rows)))
  where
    go : (b : Bool) → (if b then no_entries else (state_seen p).tables).entries ≡ present (if b then p.effects ++ (cleared ∷ []) else p.effects)
    go true = sym (present-snoc p.effects cleared)
    go false = refl
tables_agree p (on_tables (WRITE h atomicity us)) = go (accepted (state_seen p) (on_tables (WRITE h atomicity us)))
  where
    go : (b : Bool)
        → (if b then (batch atomicity (judge p.control.rows h.role) (state_seen p).tables us).tables else (state_seen p).tables).entries
        ≡ present (if b then (with_batch p h.role atomicity us).effects else p.effects)
    go true = ap (λ t. t.entries) (batched h.role p atomicity us).0
    go false = refl
tables_agree p (on_tables (READ q)) = unnoted (accepted (state_seen p) (on_tables (READ q))) p.effects

pub next-shows : (p : History) (c : Command) → next (state_seen p) c ≡ state_seen (with_call p c)
unfolding next with_call state_seen
next-shows p c = ap (λ es. record { control = next_control (state_seen p) c; tables = record { entries = es } }) (tables_agree p c)

pub run-shows : (p : History) (cs : List Command) → run (state_seen p) cs ≡ state_seen (look_back p cs)
unfolding run look_back
run-shows p [] = refl
run-shows p (c ∷ cs) = ap (λ s. run s cs) (next-shows p c) ∙ run-shows (with_call p c) cs

-- after every list of calls the agent is as looking back shows it
pub fresh-shows : (device : ℕ) (cs : List Command) → run (fresh device) cs ≡ state_seen (look_back (nothing device) cs)
unfolding fresh nothing state_seen present
fresh-shows device cs = run-shows (nothing device) cs

-- ---- what is returned

-- a call is refused under a reason up to 19
pub at-most-19 : (s : State) (c : Command) → refusal s c ≤ 19
unfolding refusal configure_reason write_reason read_reason open_stream close_stream arbitrate arbitrate_reason
at-most-19 s too_short = omega arith
at-most-19 s malformed = omega arith
at-most-19 s (on_streams (OPEN n)) = first-most 19 _ refl
at-most-19 s (on_streams (CLOSE n)) = first-most 19 _ refl
at-most-19 s (on_streams (ARBITRATE n h)) = by_state (stream_at s.control.streams n)
  where
    by_state : (x : Stream) → first (order_of s.control.device s.control.streams n h x) ≤ 19
    by_state closed = first-most 19 _ refl
    by_state unbound = first-most 19 _ refl
    by_state (bound r i) = first-most 19 _ refl
at-most-19 s (on_pipeline (CONFIGURE h rows)) = first-most 19 _ refl
at-most-19 s (on_tables (WRITE h atomicity us)) = first-most 19 _ refl
at-most-19 s (on_tables (READ q)) = first-most 19 _ refl

-- A call returns the reason under which it is refused; or 23, where it is accepted.
abbrev OwnOr23 : State → Command → ℕ → Type 0
OwnOr23 s c r = (r ≡ refusal s c) ⊎ ((r ≡ 23) × (accepted s c ≡ true))

own-or-23 : (s : State) (c : Command) (a : Answer) → (a.reason ≡ 0) ⊎ (a.reason ≡ 23) → (b : Bool) → accepted s c ≡ b
    → OwnOr23 s c (if b then a else plain (refusal s c)).reason
own-or-23 s c a h true q = ⊎_elim (λ e. inl (e ∙ sym (eqb-true (refusal s c) 0 q))) (λ e. inr (e, q)) h
own-or-23 s c a h false q = inl refl

pub returned-own : (s : State) (c : Command) → OwnOr23 s c (reply s c).returned
unfolding reply reply_of answer refusal open_stream close_stream arbitrate
returned-own s too_short = inl refl
returned-own s malformed = inl refl
returned-own s (on_streams (OPEN n)) = inl refl
returned-own s (on_streams (CLOSE n)) = inl refl
returned-own s (on_streams (ARBITRATE n h)) = inl refl
returned-own s (on_pipeline (CONFIGURE h rows)) = inl refl
returned-own s (on_tables (WRITE h atomicity us)) =
    own-or-23 s (on_tables (WRITE h atomicity us)) _
    (head-reason (every (eqb 0) (batch atomicity (judge s.control.rows h.role) s.tables us).reasons))
    (accepted s (on_tables (WRITE h atomicity us))) refl
  where
    head-reason : (b : Bool) → ◌≡◌ {A = ℕ} (if b then 0 else 23) 0 ⊎ ◌≡◌ {A = ℕ} (if b then 0 else 23) 23
    head-reason true = inl refl
    head-reason false = inr refl
returned-own s (on_tables (READ q)) =
    own-or-23 s (on_tables (READ q)) (record { reason = 0; records = shown s q }) (inl refl) (accepted s (on_tables (READ q))) refl

pub returned-accepted : (s : State) (c : Command) → (((reply s c).returned ≡ 0) ⊎ ((reply s c).returned ≡ 23)) ↔ (accepted s c ≡ true)
returned-accepted s c = go (reply s c).returned (returned-own s c)
  where
    go : (r : ℕ) → OwnOr23 s c r → ((r ≡ 0) ⊎ (r ≡ 23)) ↔ (accepted s c ≡ true)
    go r (inl q) = (
      λ h. ⊎_elim (λ e. eq-eqb (refusal s c) 0 (sym q ∙ e)) (λ e. absurd (omega (arith, at-most-19 s c))) h,
      λ h. inl (q ∙ eqb-true (refusal s c) 0 h),
    )
    go r (inr q) = (λ h. q.1, λ h. inr q.0)

-- ---- a batch that was rolled back

-- a WRITE with atomicity 1 that returned 23 leaves the agent as it was
left : (s : State) (h : Head) (us : List Update) → (reply s (on_tables (WRITE h 1 us))).returned ≡ 23 → next s (on_tables (WRITE h 1 us)) ≡ s
unfolding reply reply_of answer next next_control next_tables refusal
left s h us e = ap (λ (t : Tables). record { control = s.control; tables = t }) (go (accepted s c) refl e)
  where
    c : Command
    c = on_tables (WRITE h 1 us)

    rs : List ℕ
    rs = (batch_of s h 1 us).reasons

    go : (b : Bool) → accepted s c ≡ b → (if b then record { reason = head_reason rs; records = map pair_of rs } else plain (refusal s c)).reason ≡ 23
        → (if b then (batch_of s h 1 us).tables else s.tables) ≡ s.tables
    go true q z = (rollback s.control.rows h.role s.tables).left us z
    go false q z = refl

-- ---- the claim

pub agreement : (room device : ℕ) (before : List Call) (c : Call) → Agreement room device before c
unfolding reply_after history_of reply reply_seen
agreement room device before c = record {
  replies = replies;
  acceptance = subst
      (λ s. (((reply s (command_of room c)).returned ≡ 0) ⊎ ((reply s (command_of room c)).returned ≡ 23))
      ↔ (accepted (state_seen p) (command_of room c) ≡ true))
      (sym shown-past) (returned-accepted (state_seen p) (command_of room c));
  updates = updates;
  rolled-back = undone;
}
  where
    p : History
    p = look_back (nothing device) (commands_of room before)

    shown-past : run (fresh device) (commands_of room before) ≡ state_seen p
    shown-past = fresh-shows device (commands_of room before)

    replies : reply (run (fresh device) (commands_of room before)) (command_of room c) ≡ reply_seen p (command_of room c)
    replies = ap (λ s. reply s (command_of room c)) shown-past ∙ ap reply_of (answers_agree p (command_of room c))

    updates : (h : Head) (atomicity : ℕ) (earlier : List Update) (u : Update) (later : List Update)
        → command_of room c ≡ on_tables (WRITE h atomicity (earlier ++ u ∷ later))
        → accepted (state_seen p) (command_of room c) ≡ true
        → (pair_at (length earlier) (reply (run (fresh device) (commands_of room before)) (command_of room c)).written ≡ 0 ∷ 0 ∷ [])
        ↔ (took_effect p h.role atomicity earlier u later ≡ true)
    updates h atomicity earlier u later e q =
        let x = seen_at h.role p atomicity earlier u later in
        let w : pair_at (length earlier) (reply (run (fresh device) (commands_of room before)) (command_of room c)).written ≡ pair_of x.0 =
        ap (λ a. pair_at (length earlier) a.written) (replies ∙ ap (reply_seen p) e)
        ∙ update-pair p h atomicity (earlier ++ u ∷ later) (length earlier) x.0 x.2 (subst (λ y. accepted (state_seen p) y ≡ true) e q) in
        (λ z. x.1.0 ((pair-zero x.0).0 (sym w ∙ z)), λ z. w ∙ (pair-zero x.0).1 (x.1.1 z))

    s : State
    s = run (fresh device) (commands_of room before)

    undone : (h : Head) (us : List Update) → command_of room c ≡ on_tables (WRITE h 1 us) → (reply s (command_of room c)).returned ≡ 23
        → (q : Query) → reply s (on_tables (READ q)) ≡ reply (next s (command_of room c)) (on_tables (READ q))
    undone h us e r q =
        let same : next s (on_tables (WRITE h 1 us)) ≡ s = left s h us (subst (λ (x : Command). (reply s x).returned ≡ 23) e r) in
        sym (ap (λ (t : State). reply t (on_tables (READ q))) (ap (next s) e ∙ same))
