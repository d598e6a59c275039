-- The worked cases of batches that roll back hold because the definitions compute to them. Assumes nothing.
use Rattle.std.specs.Prelude.{if◌then◌else◌}
use mathlib.Core.Path.{◌≡◌, refl, sym, ap, ◌∙◌}
use mathlib.Core.List.{List, [], ◌∷◌, ◌++◌, map}
use mathlib.Core.Option.{Option, some}
use Prim.Native.Nat.{ℕ, zero, suc}
use lib.Dec.{eqb}
use lib.ListN.{replicate}
use Rattle.rules.specs.Frame.{Head, Update, update_of, WRITE, Command, on_tables}
use Rattle.rules.specs.Row.{Row, row_of}
use Rattle.rules.specs.Update.{Tables, Batch, judge, apply, one_further, failure, unless_failed, each_alone, all_or_none, batch}
use Rattle.rules.specs.Answer.{Reply, reply_of}
use Rattle.rules.specs.Call.{State, TableOutcome, table_command, write_reason, plain, pair_of, head_reason}
use Rattle.rules.specs.Sample.{by, open!, arbitrate!, write!, read_all!, item, insert!, modify!, configured, command_in, after, InTurn}
use Rattle.rules.specs.EntryCases.{tables, stocked}
use Rattle.rules.specs.RollbackCases.{none_fails, first_fails, middle_fails, last_fails, only_fails, most, one_key_calls, one_key_kept_calls, forgotten, foreign}
use Rattle.rules.specs.RollbackCases.{resent, Rollbacks}
use Rattle.rules.proofs.Computing.{computing}
use Rattle.rules.proofs.Runs.{Cases, InTurns, computed-in-turn, in-turn, taking, replies, replies-are, due}

abbrev on_stocked : List Cases
on_stocked =
    none_fails 1
    ∷ none_fails 0
    ∷ first_fails
    ∷ middle_fails
    ∷ last_fails
    ∷ only_fails
    ∷ one_key_calls
    ∷ one_key_kept_calls
    ∷ []

on-stocked : InTurns stocked on_stocked
unfolding computing
on-stocked = computed-in-turn stocked on_stocked

forgotten-is : InTurns (configured tables) (forgotten ∷ [])
unfolding computing
forgotten-is = computed-in-turn (configured tables) (forgotten ∷ [])

foreign-is : InTurns (stocked ++ (open! 2 ∷ arbitrate! 2 (by 1 5) ∷ [])) (foreign ∷ [])
unfolding computing
foreign-is = computed-in-turn (stocked ++ (open! 2 ∷ arbitrate! 2 (by 1 5) ∷ [])) (foreign ∷ [])

resent-is : InTurns (stocked ++ (open! 2 ∷ [])) (resent ∷ [])
unfolding computing
resent-is = computed-in-turn (stocked ++ (open! 2 ∷ [])) (resent ∷ [])

-- ---- as many updates as a WRITE holds: all but the last are one MODIFY, which changes nothing once it took effect

-- what is computed once where it stands in a signature
computed : {A : Type 0} (a : A) → a ≡ a
computed a = refl

module _ (rows : List Row) (role : ℕ) where
  -- an update that takes effect, before a failure
  one_more : (t t' : Tables) (u : Update) (us : List Update) (n r : ℕ) → judge rows role t u ≡ 0 → apply 0 u t ≡ t'
      → failure (judge rows role) t' us ≡ some (n, r) → failure (judge rows role) t (u ∷ us) ≡ some (suc n, r)
  unfolding failure
  one_more t t' u us n r j a f =
      (λ i. if eqb (j i) 0 then one_further (failure (judge rows role) (apply (j i) u t) us) else some (0, j i))
      ∙ ap (λ (x : Tables). one_further (failure (judge rows role) x us)) a
      ∙ ap one_further f

  -- and n of one that leaves the tables as they are
  many_more : (t : Tables) (u : Update) (us : List Update) (r : ℕ) → judge rows role t u ≡ 0 → apply 0 u t ≡ t
      → failure (judge rows role) t us ≡ some (0, r) → (n : ℕ) → failure (judge rows role) t (replicate n u ++ us) ≡ some (n, r)
  many_more t u us r j a f zero = f
  many_more t u us r j a f (suc n) = one_more t t u (replicate n u ++ us) n r j a (many_more t u us r j a f n)

-- an atomic WRITE by its reason and its first failure
module _ (s : State) (h : Head) (us : List Update) where
  abbrev batch_by : Option (ℕ × ℕ) → Batch
  batch_by o = unless_failed o s.tables us (each_alone (judge s.control.rows h.role) s.tables us)

  abbrev outcome : ℕ → Option (ℕ × ℕ) → TableOutcome
  outcome r o = record {
    reason = r;
    tables = if eqb r 0 then (batch_by o).tables else s.tables;
    answer =
        if eqb r 0 then record { reason = head_reason (batch_by o).reasons; records = map pair_of (batch_by o).reasons } else plain r;
  }

  outcome-is : (o : Option (ℕ × ℕ)) → write_reason s.control h 1 ≡ 0 → failure (judge s.control.rows h.role) s.tables us ≡ o
      → table_command s (WRITE h 1 us) ≡ outcome 0 o
  unfolding batch all_or_none
  outcome-is o e f = λ i. outcome (e i) (f i)

-- the agent, its rows and its tables; the tables after a MODIFY
abbrev agent : State
agent = after stocked

abbrev rows : List Row
rows = map row_of tables

abbrev before : Tables
before = record { entries = item 1 1 1 ∷ item 2 1 1 ∷ item 1 2 1 ∷ item 2 2 1 ∷ [] }

abbrev altered : Tables
altered = record { entries = item 1 1 1 ∷ item 2 1 2 ∷ item 1 2 1 ∷ item 2 2 1 ∷ [] }

rows_are : agent.control.rows ≡ rows
unfolding computing
rows_are = computed agent.control.rows

tables-are : agent.tables ≡ before
unfolding computing
tables-are = computed agent.tables

-- the frame and its updates
abbrev frame : List ℕ
frame = write! (by 0 5) 1 (replicate 63 (modify! (item 2 1 2)) ++ (insert! (item 2 1 1) ∷ []))

abbrev head : Head
head = record { device = 1; role = 0; id = 5 }

abbrev alters : Update
alters = update_of (modify! (item 2 1 2))

abbrev fails : Update
fails = update_of (insert! (item 2 1 1))

abbrev updates : List Update
updates = alters ∷ replicate 62 alters ++ (fails ∷ [])

frame_is : command_in frame ≡ on_tables (WRITE head 1 updates)
unfolding computing
frame_is = computed (command_in frame)

reason-is : write_reason agent.control head 1 ≡ 0
unfolding computing
reason-is = computed (write_reason agent.control head 1)

-- each of them
first_passes : judge rows 0 before alters ≡ 0
unfolding computing
first_passes = computed (judge rows 0 before alters)

first-alters : apply 0 alters before ≡ altered
unfolding computing
first-alters = computed (apply 0 alters before)

next-passes : judge rows 0 altered alters ≡ 0
unfolding computing
next-passes = computed (judge rows 0 altered alters)

next-keeps : apply 0 alters altered ≡ altered
unfolding computing
next-keeps = computed (apply 0 alters altered)

last-is-refused : failure (judge rows 0) altered (fails ∷ []) ≡ some (0, 20)
unfolding computing
last-is-refused = computed (failure (judge rows 0) altered (fails ∷ []))

failure-is : failure (judge agent.control.rows 0) agent.tables updates ≡ some (63, 20)
failure-is =
    (λ i. failure (judge (rows_are i) 0) (tables-are i) updates)
    ∙ one_more rows 0 before altered alters (replicate 62 alters ++ (fails ∷ [])) 62 20 first_passes first-alters
    (many_more rows 0 altered alters (fails ∷ []) 20 next-passes next-keeps last-is-refused 62)

-- the two answers, by what the WRITE comes to
abbrev then_read : Reply → State → List Reply
then_read r s = r ∷ replies s (command_in read_all! ∷ [])

abbrev both : TableOutcome → List Reply
both o = then_read (reply_of o.answer) (record { control = agent.control; tables = o.tables })

both-are : both (outcome agent head updates 0 (some (63, 20))) ≡ due most
unfolding computing
both-are = computed (both (outcome agent head updates 0 (some (63, 20))))

most-rolls-back : InTurn stocked most
most-rolls-back =
    sym (replies-are agent (frame ∷ read_all! ∷ []))
    ∙ ap (λ (c : Command). taking agent c then_read) frame_is
    ∙ ap both (outcome-is agent head updates (some (63, 20)) reason-is failure-is)
    ∙ both-are

pub rollbacks : Rollbacks
unfolding computing
rollbacks = record {
  none-fails = (in-turn stocked on_stocked on-stocked 0, in-turn stocked on_stocked on-stocked 1);
  first-fails = in-turn stocked on_stocked on-stocked 2;
  middle-fails = in-turn stocked on_stocked on-stocked 3;
  last-fails = in-turn stocked on_stocked on-stocked 4;
  only-fails = in-turn stocked on_stocked on-stocked 5;
  most = most-rolls-back;
  one_key = in-turn stocked on_stocked on-stocked 6;
  one-key-kept = in-turn stocked on_stocked on-stocked 7;
  forgotten = in-turn (configured tables) (forgotten ∷ []) forgotten-is 0;
  foreign = in-turn (stocked ++ (open! 2 ∷ arbitrate! 2 (by 1 5) ∷ [])) (foreign ∷ []) foreign-is 0;
  resent = in-turn (stocked ++ (open! 2 ∷ [])) (resent ∷ []) resent-is 0;
  no-updates = refl;
}
