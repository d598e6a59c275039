-- What an event leaves, by what its stream is and by what it came to. Assumes nothing.
use Rattle.std.specs.Prelude.{Result, Ok, Err, is_ok, if◌then◌else◌}
use Prim.Native.Nat.{ℕ, ◌≤◌}
use native.Mathlib.Omega.{arith}
use mathlib.Core.Path.{◌≡◌, refl, sym, ap, ◌∙◌}
use mathlib.Core.Bool.{Bool, true, false, ◌&&◌}
use mathlib.Core.List.{[]}
use lib.Dec.{eqb, ltb}
use lib.ListN.{length, set, get_or-eq_default}
use lib.Seq.{set-get_or}
use borrow.Author.Tests.{eq-eqb, ne_eqb, ltb-false}
use Rattle.rules.specs.declared.Reason.{Reason}
use Rattle.rules.specs.Named.{reason_of}
use Rattle.rules.specs.Reason.{first}
use Rattle.rules.specs.Frame.{Head}
use Rattle.rules.specs.Streams.{Stream, closed, unbound, bound, Streams, stream_at, is_open, notify_all, become, open_stream, close_stream}
use Rattle.rules.specs.Streams.{records_on_close, close_records, arbitrate_reason, binds, bind_records, arbitrate, Outcome}
use Rattle.rules.proofs.Tests.{contradiction}
use Rattle.rules.proofs.Named.{number_set}
use Rattle.leadership.proofs.ArbitrateReason.{order_is, reason-closes}
use Rattle.election.specs.Meaning.{role_or}
use Rattle.leadership.specs.Scanning.{leads}
use Rattle.arbitration.specs.Meaning.{records_of}
use Rattle.arbitration.specs.declared.Notify.{Notify}

-- what came to no refusal has number 0
accepted : (o : Result (Unit {0}) Reason) → eqb (reason_of o) 0 ≡ is_ok o
accepted (Ok a) = refl
accepted (Err r) = ne_eqb _ 0 (number_set r)

module _ (e : Streams) (s : ℕ) where
  -- stream s closed under a reason, with the notifications of a CLOSE
  abbrev pub closed_under : ℕ → Outcome
  closed_under n = record { after = become e s closed; reason = n; records = close_records e s }

  -- to close what is not open changes nothing
  pub closed-already : {x : Stream} → x ≡ stream_at e s → is_open x ≡ false → e ≡ become e s closed
  closed-already {x} h o = λ i. record {
    streams = (sym (set-get_or e.streams s closed) ∙ ap (set e.streams s) (sym h ∙ is-closed x o)) i;
    marks = e.marks;
  }
    where
      is-closed : (x : Stream) → is_open x ≡ false → x ≡ closed
      is-closed closed o = refl
      is-closed unbound o = contradiction refl o
      is-closed (bound r i) o = contradiction refl o

  -- ---- who is notified when stream s closes

  module _ {x : Stream} (h : x ≡ stream_at e s) where
    -- where it is its role's primary, the streams left in the role
    pub primary-closes : (r : ℕ) → role_or r x ≡ r → leads e s x ≡ true → notify_all (become e s closed) r ≡ close_records e s
    unfolding close_records
    primary-closes r q t = rw (← h) (go x q t)
      where
        go : (x : Stream) → role_or r x ≡ r → leads e s x ≡ true → notify_all (become e s closed) r ≡ records_on_close e s x
        go closed q t = contradiction t refl
        go unbound q t = contradiction t refl
        go (bound p i) q t = rw (t, q)

    -- and otherwise nobody
    pub other-closes : leads e s x ≡ false → [] ≡ close_records e s
    unfolding close_records
    other-closes t = rw (← h) (go x t)
      where
        go : (x : Stream) → leads e s x ≡ false → [] ≡ records_on_close e s x
        go closed t = refl
        go unbound t = refl
        go (bound p i) t = rw t

  -- ---- OPEN

  -- a stream past the last is not open
  open-within : length e.streams ≡ 32 → {x : Stream} → x ≡ stream_at e s → ltb s 32 && is_open x ≡ is_open x
  open-within n {x} h = go (ltb s 32) (ltb-false s 32)
    where
      go : (b : Bool) → (b ≡ false → 32 ≤ s) → b && is_open x ≡ is_open x
      go true g = refl
      go false g =
          let past : length e.streams ≤ s = omega (arith, g refl) in
          sym (ap is_open (h ∙ get_or-eq_default e.streams closed past))

  pub opens : {x : Stream} → x ≡ stream_at e s → (o : Result (Unit {0}) Reason) → reason_of o ≡ (if is_open x then 3 else 0)
      → {e' : Streams} → e' ≡ (if is_ok o then become e s unbound else e)
      → record { after = e'; reason = reason_of o; records = [] } ≡ open_stream e s
  unfolding open_stream first
  opens h o q d = rw (d, ← h, ← q, accepted o)

  -- the same of the reason by the stream's number
  pub opens-within : length e.streams ≡ 32 → {x : Stream} → x ≡ stream_at e s
      → (o : Result (Unit {0}) Reason) → reason_of o ≡ (if ltb s 32 && is_open x then 3 else 0)
      → {e' : Streams} → e' ≡ (if is_ok o then become e s unbound else e)
      → record { after = e'; reason = reason_of o; records = [] } ≡ open_stream e s
  opens-within n h o q d = opens h o (rw (open-within n h) at q) d

  -- ---- CLOSE

  close-is : (x : Stream) → x ≡ stream_at e s → (n : ℕ) → n ≡ (if is_open x then 0 else 4) → closed_under n ≡ close_stream e s
  unfolding close_stream close_records first
  close-is closed h n q = rw (q, ← h, ← closed-already h refl)
  close-is unbound h n q = rw (q, ← h)
  close-is (bound r i) h n q = rw (q, ← h)

  pub closes : {x : Stream} → x ≡ stream_at e s → (o : Result (Unit {0}) Reason) → reason_of o ≡ (if is_open x then 0 else 4)
      → {e' : Streams} → e' ≡ (if is_ok o then become e s closed else e)
      → (n : Notify) → records_of n (become e s closed) ≡ close_records e s
      → record { after = e'; reason = reason_of o; records = records_of n e' } ≡ close_stream e s
  closes {x} h o q {e'} d n k = rw (left (is_ok o) d refl, k) (close-is x h (reason_of o) q)
    where
      left : (b : Bool) → e' ≡ (if b then become e s closed else e) → is_ok o ≡ b → e' ≡ become e s closed
      left true d t = d
      left false d t = d ∙ closed-already h (not-open (is_open x) refl q)
        where
          not-open : (a : Bool) → is_open x ≡ a → reason_of o ≡ (if a then 0 else 4) → is_open x ≡ false
          not-open false p q = p
          not-open true p q = contradiction (eq-eqb (reason_of o) 0 q) (accepted o ∙ t)

  -- ---- ARBITRATE

  module _ (device : ℕ) (h : Head) where
    pub arbitrate-binds : 0 ≡ arbitrate_reason device e s h
        → record { after = binds e s h; reason = 0; records = bind_records e (binds e s h) s h.role } ≡ arbitrate device e s h
    unfolding arbitrate
    arbitrate-binds p = rw (← p)

    -- each refusal leaves the stream closed: under 4 it was
    pub arbitrate-closes : {n : ℕ} → n ≡ arbitrate_reason device e s h → (n ≡ 0 → ⊥) → closed_under n ≡ arbitrate device e s h
    unfolding arbitrate close_records first
    arbitrate-closes {n} p zero = go (stream_at e s) refl
      where
        opened : {x : Stream} → x ≡ stream_at e s → is_open x ≡ true → closed_under n ≡ arbitrate device e s h
        opened q o = rw (← p, ne_eqb n 0 zero, reason-closes e s device h p q o zero)

        go : (x : Stream) → x ≡ stream_at e s → closed_under n ≡ arbitrate device e s h
        go closed q =
            let four : n ≡ 4 = p ∙ sym (order_is e s device h q) in
            rw (← p, four, ← q, ← closed-already q refl)
        go unbound q = opened q refl
        go (bound r i) q = opened q refl

    -- under 4 the record stays
    pub arbitrate-keeps : 4 ≡ arbitrate_reason device e s h → e ≡ (arbitrate device e s h).after
    arbitrate-keeps p =
        go (stream_at e s) refl ∙ ap (λ (o : Outcome). o.after) (arbitrate-closes p (λ z. absurd (omega arith)))
      where
        opened : {x : Stream} → x ≡ stream_at e s → is_open x ≡ true → e ≡ become e s closed
        opened q o = contradiction (reason-closes e s device h p q o (λ z. absurd (omega arith))) refl

        go : (x : Stream) → x ≡ stream_at e s → e ≡ become e s closed
        go closed q = closed-already q refl
        go unbound q = opened q refl
        go (bound r i) q = opened q refl

    -- e' is the record that it leaves, and n is who is to be notified
    pub arbitrate-leaves : (n : Notify) {r : ℕ} {e' : Streams} → e' ≡ (arbitrate device e s h).after → r ≡ arbitrate_reason device e s h
        → records_of n (arbitrate device e s h).after ≡ (arbitrate device e s h).records
        → record { after = e'; reason = r; records = records_of n e' } ≡ arbitrate device e s h
    unfolding arbitrate
    arbitrate-leaves n d p q = λ i. record { after = d i; reason = p i; records = (ap (records_of n) d ∙ q) i }

-- the same outcome notifies the same
pub notified-as : (n : Notify) {o o' : Outcome} → o ≡ o' → records_of n o.after ≡ o.records → records_of n o'.after ≡ o'.records
notified-as n q k = rw (← q) k

-- the role of a bound stream is no other
pub own-role : (x : Stream) (r : ℕ) → role_or (role_or r x) x ≡ role_or r x
own-role closed r = refl
own-role unbound r = refl
own-role (bound q i) r = refl

-- a refusal has another number than 0
pub refused : {o : Result (Unit {0}) Reason} {r : Reason} → o ≡ Err r → reason_of o ≡ 0 → ⊥
refused {o} {r} q z = number_set r (sym (ap reason_of q) ∙ z)
