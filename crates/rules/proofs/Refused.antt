-- A refused call leaves the agent alone: every change but the closing of a stream is made only where the reason is 0.
-- Assumes nothing.
use Rattle.std.specs.Prelude.{if◌then◌else◌}
use Prim.Native.Nat.{ℕ}
use mathlib.Core.Path.{◌≡◌, refl, sym, ap, ◌∙◌}
use mathlib.Core.Bool.{Bool, true, false}
use lib.Dec.{eqb}
use borrow.Author.Tests.{ne_eqb}
use Rattle.rules.specs.Bytes.{between}
use Rattle.rules.specs.Frame.{OPEN, CLOSE, ARBITRATE, PipelineCommand, CONFIGURE, TableCommand, WRITE}
use Rattle.rules.specs.Frame.{READ, Command, too_short, malformed, on_streams, on_pipeline, on_tables}
use Rattle.rules.specs.Streams.{Streams, become, closed, open_stream, close_stream, arbitrate}
use Rattle.rules.specs.Call.{State, pipeline_command, table_command, plain, refusal, accepted}
use Rattle.rules.specs.Call.{with_streams, with_rows, next_control, next_tables, next, answer}
use Rattle.rules.specs.Refused.{streams_left, LeftAlone}

marks-left : (e : Streams) (c : Command) (r : ℕ) → (streams_left e c r).marks ≡ e.marks
marks-left e too_short r = refl
marks-left e malformed r = refl
marks-left e (on_streams (OPEN n)) r = refl
marks-left e (on_streams (CLOSE n)) r = refl
marks-left e (on_streams (ARBITRATE n h)) r = go (between 5 9 r)
  where
    go : (b : Bool) → (if b then become e n closed else e).marks ≡ e.marks
    go true = refl
    go false = refl
marks-left e (on_pipeline x) r = refl
marks-left e (on_tables x) r = refl

left_alone : (s : State) (c : Command) → next_tables s c ≡ s.tables
    → next_control s c ≡ with_streams s.control (streams_left s.control.streams c (refusal s c)) → LeftAlone s c
unfolding next
left_alone s c t k = record {
  tables = t;
  rows = ap (λ x. x.rows) k;
  device = ap (λ x. x.device) k;
  marks = ap (λ x. x.streams.marks) k ∙ marks-left s.control.streams c (refusal s c);
  streams = ap (λ x. x.streams) k;
}

not_taken : {A : Type 0} (b : Bool) (x y : A) → b ≡ false → (if b then x else y) ≡ y
not_taken b x y h = rw h

pub refused : (s : State) (c : Command) → accepted s c ≡ false → LeftAlone s c
unfolding next_control next_tables refusal open_stream close_stream arbitrate
refused s too_short q = left_alone s too_short refl refl
refused s malformed q = left_alone s malformed refl refl
refused s (on_streams (OPEN n)) q =
    left_alone s (on_streams (OPEN n)) refl (ap (with_streams s.control) (not_taken (accepted s (on_streams (OPEN n))) _ _ q))
refused s (on_streams (CLOSE n)) q =
    left_alone s (on_streams (CLOSE n)) refl (ap (with_streams s.control) (not_taken (accepted s (on_streams (CLOSE n))) _ _ q))
refused s (on_streams (ARBITRATE n h)) q =
    left_alone s (on_streams (ARBITRATE n h)) refl
    (ap (with_streams s.control) (not_taken (accepted s (on_streams (ARBITRATE n h))) _ _ q))
refused s (on_pipeline (CONFIGURE h rows)) q =
    left_alone s (on_pipeline (CONFIGURE h rows)) (not_taken (accepted s (on_pipeline (CONFIGURE h rows))) _ _ q)
    (ap (with_rows s.control) (not_taken (accepted s (on_pipeline (CONFIGURE h rows))) _ _ q))
refused s (on_tables (WRITE h atomicity us)) q =
    left_alone s (on_tables (WRITE h atomicity us)) (not_taken (accepted s (on_tables (WRITE h atomicity us))) _ _ q) refl
refused s (on_tables (READ x)) q = left_alone s (on_tables (READ x)) refl refl

-- ---- a refused pipeline or table command leaves everything as it was, and answers with a head alone

refuses : {m r : ℕ} → m ≡ r → (r ≡ 0 → ⊥) → eqb m 0 ≡ false
refuses {m} e n = ne_eqb m 0 (λ z. n (sym e ∙ z))

pub pipeline-refused : (s : State) (x : PipelineCommand) {r : ℕ} → (pipeline_command s x).reason ≡ r → (r ≡ 0 → ⊥)
    → (next s (on_pipeline x) ≡ s) × (answer s (on_pipeline x) ≡ plain r)
unfolding next next_control next_tables answer
pipeline-refused s (CONFIGURE h rows) e n = (rw (refuses e n), ap plain e)

pub table-refused : (s : State) (x : TableCommand) {r : ℕ} → (table_command s x).reason ≡ r → (r ≡ 0 → ⊥)
    → (next s (on_tables x) ≡ s) × (answer s (on_tables x) ≡ plain r)
unfolding next next_control next_tables answer
table-refused s (WRITE h atomicity us) e n = (rw (refuses e n), rw (refuses e n) (ap plain e))
table-refused s (READ q) e n = (refl, rw (refuses e n) (ap plain e))
