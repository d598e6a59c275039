-- Right because the scan shows what an accepted ARBITRATE keeps, and of a refusal whether the sender is the primary. Assumes nothing.
use mathlib.Core.Path.{◌≡◌, sym, ap, ◌∙◌}
use mathlib.Core.Bool.{true, false}
use mathlib.Core.List.{List, [], ◌∷◌}
use Prim.Native.Nat.{ℕ}
use Rattle.rules.specs.Named.{reason_of}
use Rattle.rules.specs.Streams as rules
use Rattle.rules.specs.Streams.{bind_records}
use Rattle.election.specs.Meaning.{head_of, binding_of, role_or}
use Rattle.leadership.proofs.ArbitrateReason.{accepted-role}
use Rattle.leadership.proofs.Notices.{notice-is, notification-kept}
use Rattle.arbitration.specs.Meaning.{records_of}
use Rattle.arbitration.specs.declared.Notify.TheVariants.{Only, All, None}
use Rattle.arbitration.proofs.Events.{primary-closes, other-closes, arbitrate-binds, arbitrate-closes, notified-as, own-role, refused}
use Rattle.arbitration.proofs.audience.Goals as goal

pub returns-in-Ok : goal.returns-in-Ok
unfolding records_of bind_records
returns-in-Ok c = λ device e w p.
    let a = c.args in
    let s = a.stream in
    let h = head_of a.head in
    let q = sym (ap reason_of c.in-Ok.is) ∙ p in
    let l = a.scan.leadership in
    let r : l.role ≡ a.head.role = w.role ∙ accepted-role e s device h q w.own in
    let same : rules.same_pair e (rules.binds e s h) a.head.role ≡ true = sym (c.keeps.ensures device e w q) ∙ c.if-keeps.true in
    let n = notice-is l e w.leadership s
    ∙ ap (λ (x : ℕ). rules.notification e x s) r
    ∙ notification-kept e (rules.binds e s h) a.head.role s same in
    notified-as (Only s l) (arbitrate-binds e s device h q) (rw same (ap (λ (x : List ℕ). x ∷ []) n))

pub returns-in-Ok-2 : goal.returns-in-Ok-2
unfolding records_of bind_records
returns-in-Ok-2 c = λ device e w p.
    let a = c.args in
    let s = a.stream in
    let h = head_of a.head in
    let q = sym (ap reason_of c.in-Ok-2.is) ∙ p in
    let same : rules.same_pair e (rules.binds e s h) a.head.role ≡ false = sym (c.keeps.ensures device e w q) ∙ c.if-keeps.false in
    notified-as (All a.head.role) (arbitrate-binds e s device h q) (rw same)

pub returns-in-Err : goal.returns-in-Err
unfolding records_of
returns-in-Err c = λ device e w p.
    let a = c.args in
    let r = a.scan.leadership.role in
    let q : role_or r (binding_of a.scan.own) ≡ r = rw w.role (own-role (binding_of a.scan.own) a.head.role) in
    notified-as (All r) (arbitrate-closes e a.stream device (head_of a.head) p (refused c.in-Err.is))
    (primary-closes e a.stream w.own r q (sym (c.leads.ensures e a.head.role _ w) ∙ c.if-leads.true))

pub returns-in-Err-2 : goal.returns-in-Err-2
unfolding records_of
returns-in-Err-2 c = λ device e w p.
    let a = c.args in
    notified-as None (arbitrate-closes e a.stream device (head_of a.head) p (refused c.in-Err-2.is))
    (other-closes e a.stream w.own (sym (c.leads.ensures e a.head.role _ w) ∙ c.if-leads.false))
