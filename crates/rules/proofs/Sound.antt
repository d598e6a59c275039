-- Every list of calls leaves a sound agent: a fresh one is sound, and no call breaks it. Assumes nothing.
use Rattle.std.specs.Prelude.{if◌then◌else◌}
use Prim.Native.Nat.{ℕ, ◌≤◌}
use mathlib.Core.Path.{◌≡◌, refl}
use mathlib.Core.Bool.{Bool, true, false}
use mathlib.Core.List.{List, [], ◌∷◌, map}
use native.Mathlib.Omega.{arith}
use borrow.Author.Tests.{eqb-true, not-false}
use Rattle.rules.specs.Bytes.{every}
use Rattle.rules.specs.Frame.{Head, Update, Command, too_short, malformed}
use Rattle.rules.specs.Frame.{CONFIGURE, WRITE, READ, on_streams, on_pipeline, on_tables}
use Rattle.rules.specs.Streams.{mark_of}
use Rattle.rules.specs.Row.{row_of, rows_allowed, configuration_allowed, unused_zero}
use Rattle.rules.specs.Update.{no_entries, judge}
use Rattle.rules.specs.Call.{State, Call, fresh, configure_reason, refusal, accepted, next_control, batch_of, next_tables, next, run}
use Rattle.rules.specs.Agreement.{commands_of}
use Rattle.rules.specs.Sound.{SoundTables, Sound}
use Rattle.rules.proofs.Tests.{and-true}
use Rattle.rules.proofs.Orders.{first-clear}
use Rattle.rules.proofs.Formed.{Whole, Formed, EveryFormed, calls-formed}
use Rattle.rules.proofs.Streams.{fresh-sound}
use Rattle.rules.proofs.Tables.{alone-sound, none-sound}
use Rattle.rules.proofs.Rollback.{left-either}
use Rattle.rules.proofs.Primary.{next-streams, next-mark}

-- ---- a call

-- an accepted CONFIGURE passed 14
passed-14 : (s : State) (h : Head) (rows : List (List ℕ)) → accepted s (on_pipeline (CONFIGURE h rows)) ≡ true → rows_allowed (map row_of rows) ≡ true
unfolding refusal configure_reason configuration_allowed
passed-14 s h rows a =
    let c = first-clear _ refl (eqb-true _ _ a) in
    (and-true (rows_allowed (map row_of rows)) (every unused_zero rows) (not-false _ c.1.1.1.1.0)).0

configure-sound : (s : State) (h : Head) (rows : List (List ℕ)) → Sound s
    → (rows_allowed (next_control s (on_pipeline (CONFIGURE h rows))).rows ≡ true)
    × SoundTables (next_control s (on_pipeline (CONFIGURE h rows))).rows (next_tables s (on_pipeline (CONFIGURE h rows)))
unfolding next_control next_tables refusal
configure-sound s h rows ok = go (accepted s (on_pipeline (CONFIGURE h rows))) refl
  where
    go : (b : Bool) → accepted s (on_pipeline (CONFIGURE h rows)) ≡ b
        → (rows_allowed (if b then map row_of rows else s.control.rows) ≡ true)
        × SoundTables (if b then map row_of rows else s.control.rows) (if b then no_entries else s.tables)
    go true q = (passed-14 s h rows q, none-sound (map row_of rows))
    go false q = (ok.rows, ok.tables)

write-sound : (s : State) (h : Head) (atomicity : ℕ) (us : List Update) → Whole us → Sound s
    → SoundTables s.control.rows (next_tables s (on_tables (WRITE h atomicity us)))
unfolding next_tables refusal
write-sound s h atomicity us w ok = go (accepted s (on_tables (WRITE h atomicity us)))
  where
    go : (b : Bool) → SoundTables s.control.rows (if b then (batch_of s h atomicity us).tables else s.tables)
    go true =
        left-either (SoundTables s.control.rows) atomicity (judge s.control.rows h.role) s.tables us ok.tables
        (alone-sound s.control.rows ok.rows h.role s.tables us w ok.tables)
    go false = ok.tables

pub next-sound : (s : State) (c : Command) → Formed c → Sound s → Sound (next s c)
unfolding next next_control next_tables
next-sound s too_short f ok = ok
next-sound s malformed f ok = ok
next-sound s (on_streams x) f ok = record { streams = next-streams s (on_streams x) ok.streams; rows = ok.rows; tables = ok.tables }
next-sound s (on_pipeline (CONFIGURE h rows)) f ok =
    let w = configure-sound s h rows ok in
    record { streams = ok.streams; rows = w.0; tables = w.1 }
next-sound s (on_tables (WRITE h atomicity us)) f ok =
    record { streams = ok.streams; rows = ok.rows; tables = write-sound s h atomicity us f.1 ok }
next-sound s (on_tables (READ q)) f ok = ok

-- ---- lists of calls

pub run_sound : (s : State) (cs : List Command) → EveryFormed cs → Sound s → Sound (run s cs)
unfolding run
run_sound s [] f ok = ok
run_sound s (c ∷ cs) f ok = run_sound (next s c) cs f.1 (next-sound s c f.0 ok)

pub fresh-agent : (device : ℕ) → Sound (fresh device)
unfolding fresh rows_allowed
fresh-agent device = record { streams = fresh-sound; rows = refl; tables = none-sound [] }

-- after every list of calls from a fresh agent
pub sound : (room device : ℕ) (calls : List Call) → Sound (run (fresh device) (commands_of room calls))
sound room device calls = run_sound (fresh device) (commands_of room calls) (calls-formed room calls) (fresh-agent device)

-- a mark never falls
pub mark-stays : (s : State) (c : Command) (role : ℕ) → Sound s
    → mark_of s.control.streams role ≤ mark_of (next s c).control.streams role
unfolding next
mark-stays s c role ok = omega (arith, next-mark s c role ok.streams)
