-- Only a call whose buffers are too short is answered with 2: what any other call answers is written. Assumes nothing.
use Rattle.std.specs.Prelude.{if◌then◌else◌}
use Prim.Native.Nat.{ℕ}
use mathlib.Core.Path.{◌≡◌, refl}
use mathlib.Core.Bool.{Bool, true, false}
use native.Mathlib.Omega.{arith}
use lib.Dec.{eqb}
use borrow.Author.Tests.{ne_eqb}
use Rattle.rules.specs.Bytes.{every}
use Rattle.rules.specs.Reason.{first}
use Rattle.rules.specs.Frame.{Command, too_short, malformed, OPEN, CLOSE, ARBITRATE, CONFIGURE, WRITE, READ, on_streams, on_pipeline, on_tables}
use Rattle.rules.specs.Streams.{Stream, closed, unbound, bound, order_of, stream_at, open_stream, close_stream, arbitrate_reason, arbitrate}
use Rattle.rules.specs.Answer.{Answer, answer_bytes, reply_of}
use Rattle.rules.specs.Call.{State, configure_reason, write_reason, read_reason, refusal, accepted, plain, batch_of, shown, answer, reply}
use Rattle.rules.proofs.Orders.{first-avoids}

-- no refusal but that of `too_short` is 2
not-2 : (s : State) (c : Command) → (c ≡ too_short → ⊥) → refusal s c ≡ 2 → ⊥
unfolding refusal configure_reason write_reason read_reason open_stream close_stream arbitrate arbitrate_reason
not-2 s too_short n e = n refl
not-2 s malformed n e = omega arith
not-2 s (on_streams (OPEN m)) n e = first-avoids 2 _ (omega arith) refl e
not-2 s (on_streams (CLOSE m)) n e = first-avoids 2 _ (omega arith) refl e
not-2 s (on_streams (ARBITRATE m h)) n e = by_state (stream_at s.control.streams m) e
  where
    by_state : (x : Stream) → first (order_of s.control.device s.control.streams m h x) ≡ 2 → ⊥
    by_state closed q = first-avoids 2 _ (omega arith) refl q
    by_state unbound q = first-avoids 2 _ (omega arith) refl q
    by_state (bound r i) q = first-avoids 2 _ (omega arith) refl q
not-2 s (on_pipeline (CONFIGURE h rows)) n e = first-avoids 2 _ (omega arith) refl e
not-2 s (on_tables (WRITE h atomicity us)) n e = first-avoids 2 _ (omega arith) refl e
not-2 s (on_tables (READ q)) n e = first-avoids 2 _ (omega arith) refl e

-- where an accepted call answers a reason other than 2, and a refused one its own
either_way : (s : State) (c : Command) (a : Answer) → (c ≡ too_short → ⊥) → (a.reason ≡ 2 → ⊥) → (b : Bool)
    → (if b then a else plain (refusal s c)).reason ≡ 2 → ⊥
either_way s c a n h true e = h e
either_way s c a n h false e = not-2 s c n e

answers-not-2 : (s : State) (c : Command) → (c ≡ too_short → ⊥) → (answer s c).reason ≡ 2 → ⊥
unfolding answer refusal
answers-not-2 s too_short n e = n refl
answers-not-2 s malformed n e = omega arith
answers-not-2 s (on_streams x) n e = not-2 s (on_streams x) n e
answers-not-2 s (on_pipeline x) n e = not-2 s (on_pipeline x) n e
answers-not-2 s (on_tables (WRITE h atomicity us)) n e =
    either_way s (on_tables (WRITE h atomicity us)) _ n (head (every (eqb 0) (batch_of s h atomicity us).reasons))
    (accepted s (on_tables (WRITE h atomicity us))) e
  where
    head : (b : Bool) → ◌≡◌ {A = ℕ} (if b then 0 else 23) 2 → ⊥
    head true q = omega arith
    head false q = omega arith
answers-not-2 s (on_tables (READ q)) n e =
    either_way s (on_tables (READ q)) (record { reason = 0; records = shown s q }) n (λ z. let w : ◌≡◌ {A = ℕ} 0 2 = z in omega arith)
    (accepted s (on_tables (READ q))) e

pub written-whole : (s : State) (c : Command) → (c ≡ too_short → ⊥) → (reply s c).written ≡ answer_bytes (answer s c)
unfolding reply reply_of
written-whole s c n = rw (ne_eqb (answer s c).reason 2 (answers-not-2 s c n))
