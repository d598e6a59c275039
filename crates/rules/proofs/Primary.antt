-- Only the live primary changes entries: 10 lets through an id only if it is the mark and a stream holds it; the mark is the
-- highest id accepted, and no two streams of a role hold one id. Assumes nothing.
use Rattle.std.specs.Prelude.{if◌then◌else◌}
use Prim.Native.Nat.{ℕ, ◌<◌, max}
use mathlib.Core.Path.{◌≡◌, refl, sym, ◌∙◌, ap, subst}
use mathlib.Core.Bool.{Bool, true, false}
use mathlib.Core.List.{List, [], ◌∷◌, map}
use native.Mathlib.Omega.{arith}
use lib.Dec.{eqb}
use borrow.Author.Tests.{eqb-true, not-false}
use Rattle.rules.specs.Frame.{Query, Command, too_short, malformed, OPEN, CLOSE, ARBITRATE}
use Rattle.rules.specs.Frame.{CONFIGURE, WRITE, READ, on_streams, on_pipeline, on_tables}
use Rattle.rules.specs.Streams.{closed, bound, Streams, stream_at, mark_of, by_primary, open_stream, close_stream, arbitrate}
use Rattle.rules.specs.Row.{row_of}
use Rattle.rules.specs.Update.{no_entries}
use Rattle.rules.specs.Call.{State, Call, fresh, configure_reason, write_reason, read_reason, refusal, accepted}
use Rattle.rules.specs.Call.{with_rows, next_control, batch_of, next_tables, next, shown, answer, command_of, reply, run}
use Rattle.rules.specs.LookBack.{History, nothing, state_seen, with_call, look_back}
use Rattle.rules.specs.Agreement.{commands_of, history_of}
use Rattle.rules.specs.Authority.{events_from, events_of, id_for, highest, leaves, holding, Held, Gives, Authority}
use Rattle.rules.specs.Sound.{SoundStreams}
use Rattle.rules.proofs.Orders.{first-clear}
use Rattle.rules.proofs.Formed.{Formed, EveryFormed, calls-formed}
use Rattle.rules.proofs.Streams.{open-sound, close-sound, arbitrate-sound, fresh-sound, none_open, no-mark, open-mark}
use Rattle.rules.proofs.Streams.{close-mark, arbitrate-mark, open-stream, close-stream, arbitrate-stream, by-primary}
use Rattle.rules.proofs.LookBack.{fresh-shows}

-- ---- one call

pub next-streams : (s : State) (c : Command) → SoundStreams s.control.streams → SoundStreams (next_control s c).streams
unfolding next_control
next-streams s too_short ok = ok
next-streams s malformed ok = ok
next-streams s (on_streams (OPEN n)) ok = open-sound s.control.streams n ok
next-streams s (on_streams (CLOSE n)) ok = close-sound s.control.streams n ok
next-streams s (on_streams (ARBITRATE n h)) ok = arbitrate-sound s.control.device s.control.streams n h ok
next-streams s (on_pipeline x) ok = ok
next-streams s (on_tables x) ok = ok

none-offered : (m n : ℕ) (b : Bool) → m ≡ n → m ≡ max n (if b then 0 else 0)
none-offered m n true e = omega arith
none-offered m n false e = omega arith

-- the mark rises with an accepted id for the role
pub next-mark : (s : State) (c : Command) (role : ℕ) → SoundStreams s.control.streams
    → mark_of (next_control s c).streams role
    ≡ max (mark_of s.control.streams role) (if eqb (refusal s c) 0 then id_for role c else 0)
unfolding next_control refusal open_stream close_stream arbitrate
next-mark s too_short role ok = omega arith
next-mark s malformed role ok = omega arith
next-mark s (on_streams (OPEN n)) role ok = none-offered _ _ (accepted s (on_streams (OPEN n))) (open-mark s.control.streams n role)
next-mark s (on_streams (CLOSE n)) role ok = none-offered _ _ (accepted s (on_streams (CLOSE n))) (close-mark s.control.streams n role)
next-mark s (on_streams (ARBITRATE n h)) role ok = arbitrate-mark s.control.device s.control.streams n h role ok
next-mark s (on_pipeline x) role ok = none-offered _ _ (accepted s (on_pipeline x)) refl
next-mark s (on_tables x) role ok = none-offered _ _ (accepted s (on_tables x)) refl

-- a stream is what looking back says that the call leaves of it
next-stream : (s : State) (c : Command) (t : ℕ) → SoundStreams s.control.streams → Formed c
    → stream_at (next_control s c).streams t ≡ leaves t c (refusal s c) (stream_at s.control.streams t)
unfolding next_control refusal open_stream close_stream arbitrate
next-stream s too_short t ok f = refl
next-stream s malformed t ok f = refl
next-stream s (on_streams (OPEN n)) t ok f = open-stream s.control.streams t n ok f
next-stream s (on_streams (CLOSE n)) t ok f = close-stream s.control.streams t n ok f
next-stream s (on_streams (ARBITRATE n h)) t ok f = arbitrate-stream s.control.device s.control.streams t n h ok f
next-stream s (on_pipeline x) t ok f = refl
next-stream s (on_tables x) t ok f = refl

-- ---- lists of calls

past-streams : (p : History) (cs : List Command) → SoundStreams p.control.streams → SoundStreams (look_back p cs).control.streams
unfolding look_back with_call state_seen
past-streams p [] ok = ok
past-streams p (c ∷ cs) ok = past-streams (with_call p c) cs (next-streams (state_seen p) c ok)

-- the mark is the highest id accepted
mark-highest : (p : History) (cs : List Command) (role : ℕ) → SoundStreams p.control.streams
    → mark_of (look_back p cs).control.streams role ≡ max (mark_of p.control.streams role) (highest role (events_from p cs))
unfolding look_back with_call state_seen events_from highest
mark-highest p [] role ok = omega arith
mark-highest p (c ∷ cs) role ok =
    omega (arith, mark-highest (with_call p c) cs role (next-streams (state_seen p) c ok), next-mark (state_seen p) c role ok)

-- each stream is what the list says
stream-holding : (p : History) (cs : List Command) (t : ℕ) → SoundStreams p.control.streams → EveryFormed cs
    → stream_at (look_back p cs).control.streams t ≡ holding t (stream_at p.control.streams t) (events_from p cs)
unfolding look_back with_call state_seen events_from holding
stream-holding p [] t ok f = refl
stream-holding p (c ∷ cs) t ok f =
    stream-holding (with_call p c) cs t (next-streams (state_seen p) c ok) f.1
    ∙ ap (λ x. holding t x (events_from (with_call p c) cs)) (next-stream (state_seen p) c t ok f.0)

-- the id of a live primary is held as document 01 says
live-held : (device : ℕ) (cs : List Command) → EveryFormed cs → (role id : ℕ)
    → by_primary (look_back (nothing device) cs).control.streams role id ≡ true
    → Held role id (events_from (nothing device) cs)
unfolding nothing fresh
live-held device cs f role id h = record {
  set = w.0;
  top = omega (arith, w.1, mark-highest (nothing device) cs role fresh-sound, no-mark role);
  stream = w.2.0;
  holds = sym (held w.2.0) ∙ w.2.1;
  only = λ s q. ok.once role id s w.2.0 w.0 (held s ∙ q) w.2.1;
}
  where
    e : Streams
    e = (look_back (nothing device) cs).control.streams

    ok : SoundStreams e
    ok = past-streams (nothing device) cs fresh-sound

    w : (0 < id) × (id ≡ mark_of e role) × ((p : ℕ) × (stream_at e p ≡ bound role id))
    w = by-primary e role id h

    held : (s : ℕ) → stream_at e s ≡ holding s closed (events_from (nothing device) cs)
    held s = stream-holding (nothing device) cs s fresh-sound f ∙ ap (λ x. holding s x (events_from (nothing device) cs)) (none_open s)

-- ---- what an accepted call gave

gave : (s : State) (c : Command) (role id : ℕ) → Gives role id c → accepted s c ≡ true → by_primary s.control.streams role id ≡ true
unfolding refusal configure_reason write_reason
gave s too_short role id g a = absurd g
gave s malformed role id g a = absurd g
gave s (on_streams (OPEN n)) role id g a = absurd g
gave s (on_streams (CLOSE n)) role id g a = absurd g
gave s (on_streams (ARBITRATE n h)) role id g a = absurd g
gave s (on_pipeline (CONFIGURE h rows)) role id g a = rw (← g.0, ← g.1) (not-false _ (first-clear _ refl (eqb-true _ _ a)).1.1.1.0)
gave s (on_tables (WRITE h atomicity us)) role id g a = rw (← g.0, ← g.1) (not-false _ (first-clear _ refl (eqb-true _ _ a)).1.1.0)
gave s (on_tables (READ q)) role id g a = absurd g

-- ---- a call that changes no entry

-- what a READ's answer depends on
record Alike (s t : State) : Type 0 where
  device : t.control.device ≡ s.control.device
  rows : t.control.rows ≡ s.control.rows
  tables : t.tables ≡ s.tables

read_alike : (s t : State) → Alike s t → (q : Query) → reply s (on_tables (READ q)) ≡ reply t (on_tables (READ q))
unfolding reply answer refusal read_reason shown
read_alike s t a q = rw (a.device, a.rows, a.tables)

-- a call that is refused, or gives no id
next-alike : (s : State) (c : Command) → ((role id : ℕ) → Gives role id c → accepted s c ≡ true → ⊥) → Alike s (next s c)
unfolding next next_control next_tables refusal
next-alike s too_short n = record { device = refl; rows = refl; tables = refl }
next-alike s malformed n = record { device = refl; rows = refl; tables = refl }
next-alike s (on_streams x) n = record { device = refl; rows = refl; tables = refl }
next-alike s (on_pipeline (CONFIGURE h rows)) n = go (accepted s (on_pipeline (CONFIGURE h rows))) refl
  where
    go : (b : Bool) → accepted s (on_pipeline (CONFIGURE h rows)) ≡ b
        → Alike s (record {
          control = with_rows s.control (if b then map row_of rows else s.control.rows);
          tables = if b then no_entries else s.tables;
        })
    go true q = absurd (n h.role h.id (refl, refl) q)
    go false q = record { device = refl; rows = refl; tables = refl }
next-alike s (on_tables (WRITE h atomicity us)) n = go (accepted s (on_tables (WRITE h atomicity us))) refl
  where
    go : (b : Bool) → accepted s (on_tables (WRITE h atomicity us)) ≡ b
        → Alike s (record { control = s.control; tables = if b then (batch_of s h atomicity us).tables else s.tables })
    go true q = absurd (n h.role h.id (refl, refl) q)
    go false q = record { device = refl; rows = refl; tables = refl }
next-alike s (on_tables (READ q)) n = record { device = refl; rows = refl; tables = refl }

-- ---- the claim

pub authority : (room device : ℕ) (before : List Call) (c : Call) → Authority room device before c
unfolding history_of events_of state_seen
authority room device before c = record {
  given = given;
  unchanged = λ n q.
      read_alike s (next s x)
      (next-alike s x (λ role id g a. n role id g (given role id g (subst (λ t. accepted t x ≡ true) (fresh-shows device cs) a)))) q;
}
  where
    cs : List Command
    cs = commands_of room before

    x : Command
    x = command_of room c

    s : State
    s = run (fresh device) cs

    given : (role id : ℕ) → Gives role id x → accepted (state_seen (look_back (nothing device) cs)) x ≡ true
        → Held role id (events_from (nothing device) cs)
    given role id g a = live-held device cs (calls-formed room before) role id (gave (state_seen (look_back (nothing device) cs)) x role id g a)
