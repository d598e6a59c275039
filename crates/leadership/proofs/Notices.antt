-- The records of a leadership are the rules' where its primary and mark are, and the same where that pair is the same. Assumes nothing.
use Prim.Native.Nat.{ℕ}
use mathlib.Core.Path.{◌≡◌, refl, ap}
use mathlib.Core.Bool.{true}
use mathlib.Core.List.{List, map}
use mathlib.Core.Option.{Option, none, some}
use lib.Dec.{eqb}
use borrow.Author.Tests.{eqb-true}
use Rattle.rules.specs.Streams.{Streams, members, mark_of, primary, notification, notify_all, same_option, same_pair}
use Rattle.rules.proofs.Tests.{and-true, contradiction}
use Rattle.leadership.specs.Meaning.{notice_by}
use Rattle.leadership.specs.Scanning.{LeadershipIn}
use Rattle.leadership.specs.declared.Leadership.{Leadership}

same-option : (o q : Option ℕ) → same_option o q ≡ true → o ≡ q
same-option none none t = refl
same-option none (some q) t = contradiction t refl
same-option (some p) none t = contradiction t refl
same-option (some p) (some q) t = ap some (eqb-true p q t)

pub notification-kept : (e e' : Streams) (r s : ℕ) → same_pair e e' r ≡ true → notification e r s ≡ notification e' r s
notification-kept e e' r s t =
    let q = and-true (same_option (primary e r) (primary e' r)) (eqb (mark_of e r) (mark_of e' r)) t in
    rw (same-option (primary e r) (primary e' r) q.0, eqb-true (mark_of e r) (mark_of e' r) q.1)

module _ (l : Leadership) (e : Streams) (w : LeadershipIn l e) where
  pub notice-is : (s : ℕ) → notice_by l s ≡ notification e l.role s
  notice-is s = rw (w.primary, w.mark)

  pub notices-are : {m : List ℕ} → m ≡ members e l.role → map (notice_by l) m ≡ notify_all e l.role
  unfolding notify_all
  notices-are h = rw (w.primary, w.mark, h)
