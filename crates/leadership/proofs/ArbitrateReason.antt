-- The reason of an ARBITRATE: what its stream is has one order of refusals, and a reason shows what the stream and the record are.
-- Assumes nothing.
use Prim.Native.Nat.{ℕ, ◌<◌, ◌≤◌}
use native.Mathlib.Omega.{arith}
use mathlib.Core.Path.{◌≡◌, refl, sym, ap, ◌∙◌}
use mathlib.Core.Bool.{Bool, true, false, ◌||◌, not}
use mathlib.Core.List.{List, [], ◌∷◌, ◌++◌}
use lib.Dec.{eqb, leb, ltb}
use lib.ListN.{length, get_or-eq_default}
use borrow.Author.Tests.{eqb-true, ne_eqb, ltb-true, ltb-false, not-false}
use Rattle.rules.specs.Bytes.{between, every}
use Rattle.rules.specs.Reason.{first}
use Rattle.rules.specs.declared.Reason.{Reason}
use Rattle.rules.specs.declared.Reason.TheVariants.{NotPrimary, NotRoleZero, NotConfigured, Atomicity, RowsNotAllowed, NoSuchTable, NotTheRoles}
use Rattle.rules.specs.declared.Reason.TheVariants.{BadForm, TooWide, RuleBroken, Stored, NotStored, TableFull, SomeFailed, RolledBack}
use Rattle.rules.specs.Named.{number_of}
use Rattle.rules.specs.Frame.{Head}
use Rattle.rules.specs.Streams.{Stream, closed, unbound, bound, is_open, Streams, stream_at, held_elsewhere, address_order, order_of}
use Rattle.rules.specs.Streams.{arbitrate_reason}
use Rattle.rules.proofs.Tests.{contradiction, or-false}
use Rattle.rules.proofs.Orders.{first-clear, first_passes}
use Rattle.election.specs.declared.Binding.{Binding}
use Rattle.election.specs.declared.Binding.TheVariants.{Closed, Open, Bound}
use Rattle.election.specs.declared.Head.{Head as Asked}
use Rattle.election.specs.Meaning.{head_of, binding_of, role_or}
use Rattle.leadership.specs.declared.Scan.{Scan}
use Rattle.leadership.specs.Scanning.{ReasonOf}

module _ (e : Streams) (s device : ℕ) (h : Head) where
  -- ---- one order for each kind of stream

  pub order_is : {x : Stream} → x ≡ stream_at e s → first (order_of device e s h x) ≡ arbitrate_reason device e s h
  unfolding arbitrate_reason
  order_is p = rw (← p)

  -- ---- what a reason shows

  -- a refusal of an open stream closes it
  pub reason-closes : {n : ℕ} → n ≡ arbitrate_reason device e s h → {x : Stream} → x ≡ stream_at e s → is_open x ≡ true → (n ≡ 0 → ⊥)
      → between 5 9 n ≡ true
  reason-closes {n} p {x} q o zero =
      let t = order_is q ∙ sym p in
      rw (← t) (first_passes (between 5 9) (order_of device e s h x) (all x o) (rw t (ne_eqb n 0 zero)))
    where
      all : (x : Stream) → is_open x ≡ true → every (λ (c : Bool × ℕ). between 5 9 c.1) (order_of device e s h x) ≡ true
      all closed o = contradiction o refl
      all unbound o = refl
      all (bound r i) o = refl

  module _ (p : 0 ≡ arbitrate_reason device e s h) where
    -- an accepted ARBITRATE is of a stream that is not closed, so of one in the record
    pub accepted-within : s < length e.streams
    unfolding first
    accepted-within = go (ltb s (length e.streams)) (ltb-true s _) (ltb-false s _)
      where
        go : (b : Bool) → (b ≡ true → s < length e.streams) → (b ≡ false → length e.streams ≤ s) → s < length e.streams
        go true l g = l refl
        go false l g = never (order_is (sym (get_or-eq_default e.streams closed (g refl))) ∙ sym p)
          where
            never : ◌≡◌ {A = ℕ} 4 0 → s < length e.streams
            never z = absurd (omega arith)

    -- it is for the role that its stream is bound to
    pub accepted-role : {x : Stream} → x ≡ stream_at e s → role_or h.role x ≡ h.role
    accepted-role {x} q = go x (order_is q ∙ sym p)
      where
        go : (x : Stream) → first (order_of device e s h x) ≡ 0 → role_or h.role x ≡ h.role
        go closed z = refl
        go unbound z = refl
        go (bound r i) z =
            let t = or-false (not (eqb h.device device)) (not (eqb h.role r)) (first-clear (order_of device e s h (bound r i)) refl z).0 in
            sym (eqb-true h.role r (not-false (eqb h.role r) t.1))

    -- and has no id that another stream of the role holds
    pub accepted-alone : held_elsewhere e s h.role h.id ≡ false
    accepted-alone = go (stream_at e s) refl (order_is refl ∙ sym p)
      where
        go : (x : Stream) → x ≡ stream_at e s → first (order_of device e s h x) ≡ 0 → held_elsewhere e s h.role h.id ≡ false
        go closed q z = contradiction refl (first-clear (order_of device e s h closed) refl z).0
        go unbound q z = (first-clear (order_of device e s h unbound) refl z).1.1.0
        go (bound r i) q z =
            let c = first-clear (order_of device e s h (bound r i)) refl z in
            rw (← accepted-role q) c.1.0

-- ---- the reason, by what the scan shows

-- the order of refusals, where b is what the stream is
abbrev pub order_shown : ℕ → Asked → Scan → Binding → List (Bool × ℕ)
order_shown device h scan Closed = (true, 4) ∷ []
order_shown device h scan Open =
    address_order (not (eqb h.device device)) h.role ++ (scan.used, 8) ∷ (leb 8 scan.members, 9) ∷ []
order_shown device h scan (Bound r i) = (not (eqb h.device device) || not (eqb h.role r), 7) ∷ (scan.used, 8) ∷ []

pub reason-shown : (scan : Scan) (h : Asked) (device : ℕ) {n : ℕ} → n ≡ first (order_shown device h scan scan.own) → ReasonOf n device h scan
reason-shown scan h device q e s w = q ∙ ap first (same scan.own refl) ∙ order_is e s device (head_of h) w.own
  where
    same : (b : Binding) → scan.own ≡ b → order_shown device h scan b ≡ order_of device e s (head_of h) (binding_of b)
    same Closed p = refl
    same Open p =
        let r : scan.leadership.role ≡ h.role = w.role ∙ ap (λ (x : Binding). role_or h.role (binding_of x)) p in
        rw (w.used, w.members, r)
    same (Bound q i) p =
        let r : scan.leadership.role ≡ q = w.role ∙ ap (λ (x : Binding). role_or h.role (binding_of x)) p in
        rw (w.used, r)
