-- From what a handler leaves to what its command leaves under the rules: where the store stays, and where a command is refused.
-- Assumes nothing.
use Prim.Native.Nat.{ℕ, ◌≤◌}
use native.Mathlib.Omega.{arith}
use mathlib.Core.Path.{◌≡◌, refl, sym, ap, subst}
use mathlib.Core.List.{List}
use lib.ListN.{length}
use Rattle.rules.specs.Frame.{Command, too_short}
use Rattle.rules.specs.Answer.{Answer, answer_bytes}
use Rattle.rules.specs.Update.{Tables}
use Rattle.rules.specs.Call.{State, plain, answer, next}
use Rattle.rules.specs.Sound.{Sound}
use Rattle.rules.proofs.Formed.{parts-count}
use Rattle.buffers.specs.Splice.{splice}
use Rattle.answers.proofs.AnswerBytes.{replies, fills}
use Rattle.store.specs.Store.{tables_in}
use Rattle.calls.specs.Contract.{Result, Represents, Correct}
use Rattle.memory.specs.declared.Agent.{Agent}
use Rattle.memory.specs.Layout.{Flat, memory, outcome}
use Rattle.memory.specs.Handles.{at_tables, Invariant, Handles}

-- the one state that a memory of the flat layout represents
abbrev pub flat : Agent → List ℕ → State
flat a store = at_tables a (tables_in a.tables store)

pub flat-handles : (a : Agent) (c : Command) (store d : List ℕ) {r : Result Agent}
    → (Sound (flat a store) → Correct Flat (flat a store) c (memory a store) d r) → Handles (memory a store) c d r
flat-handles a c store d {r} h t k =
    subst (λ (x : Tables). Correct Flat (at_tables a x) c (memory a store) d r) k.holds
    (h (subst (λ (x : Tables). Sound (at_tables a x)) (sym k.holds) k.sound))

-- the flat layout holds at most 256 entries
pub few : (a : Agent) (store : List ℕ) (t : Tables) → Invariant (memory a store) t → a.tables.count ≤ 256
few a store t k =
    omega (arith, k.sound.tables.few, parts-count a.tables.count 220 store, ap (λ (x : Tables). length x.entries) k.holds)

module _ (a : Agent) (c : Command) (store d out : List ℕ) (fits : c ≡ too_short → ⊥) where
  -- a command that leaves the store as it is
  pub store-stays : (t : Tables) {left : Agent} {reason : ℕ} (x : Answer) → answer (at_tables a t) c ≡ x
      → Represents Flat (memory left store) (next (at_tables a t) c) → reason ≡ x.reason → out ≡ splice d 0 (answer_bytes x)
      → Correct Flat (at_tables a t) c (memory a store) d (outcome left reason store out)
  store-stays t x told s e o = record {
    state = s;
    returned = replies (at_tables a t) c x told e;
    filled = fills (at_tables a t) c x told d fits o;
    room = refl;
    beyond = refl;
    untouched = λ h. refl;
  }

  -- a refusal that leaves the agent as it is
  pub refused : (reason : ℕ) → ((t : Tables) → (next (at_tables a t) c ≡ at_tables a t) × (answer (at_tables a t) c ≡ plain reason))
      → out ≡ splice d 0 (answer_bytes (plain reason)) → Handles (memory a store) c d (outcome a reason store out)
  refused reason h o t k =
      store-stays t (plain reason) (h t).1
      (subst (Represents Flat (memory a store)) (sym (h t).0) (record { control = refl; tables = k.holds })) refl o
