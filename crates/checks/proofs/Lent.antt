-- What 17, 18 and 19 ask of a key and of an entry, by the bytes of it that are lent, and in their order. Assumes nothing.
use Rattle.std.proofs.Common.{◌≡◌, ℕ, Bool, true, false, ◌&&◌, List, drop, Option, Some, Result, Ok, Err, sym, ap, ◌∙◌, arith}
use Rattle.std.specs.Prelude.{MatchResult, is_some}
use Rattle.std.specs.Borrow.{Bor}
use Rattle.std.specs.Option.{IfSome}
use lib.Seq.{drop-drop}
use mathlib.Core.Bool.{and-false}
use Rattle.rules.specs.Bytes.{part, parts, int, number}
use Rattle.rules.specs.Named.{reason_of}
use Rattle.rules.specs.declared.Reason.{Reason}
use Rattle.rules.specs.declared.Reason.TheVariants.{RuleBroken}
use Rattle.rules.specs.Reason.{first}
use Rattle.rules.specs.Row.{Row}
use Rattle.rules.specs.Value.{is_value, fits}
use Rattle.rules.specs.Key.{slots, slot_formed, slot_fits, pairwise, pairwise_then_zeros, key_formed, key_fits, key_rules, key_order, check_order}
use Rattle.rules.specs.Entry.{action_in, has_action, widths_of, action_formed, action_fits}
use Rattle.rules.proofs.Lists.{parts-lent, part-part, drop-take}
use Rattle.rows.specs.declared.Action.{Action}
use Rattle.rows.specs.Meaning.{action_of}
use Rattle.checks.specs.Orders.{whole_order, ruled}

-- ---- the order

module _ (formed fitting ruled : Bool) where
  pub unformed : formed ≡ false → 17 ≡ first (check_order formed fitting ruled)
  unfolding first
  unformed e = rw e

  pub unfitting : formed ≡ true → fitting ≡ false → 18 ≡ first (check_order formed fitting ruled)
  unfolding first
  unfitting e f = rw (e, f)

  pub last : (r : Result (Unit {0}) Reason) → formed ≡ true → fitting ≡ true
      → MatchResult r (λ (u : Unit {0}). ruled ≡ true) (λ (x : Reason). (ruled ≡ false) × (x ≡ RuleBroken))
      → reason_of r ≡ first (check_order formed fitting ruled)
  unfolding first
  last (Ok u) e f h = rw (e, f, h)
  last (Err x) e f h = rw (e, f, h.0, h.1)

-- a key that is lent without its table
pub key-lent : (row : Row) (k : List ℕ) {lent : List ℕ} {own : List (List ℕ)} {priority : ℕ} → part 4 144 k ≡ lent
    → own ≡ parts 4 35 (drop 4 lent) → priority ≡ int 0 4 lent
    → first (check_order (pairwise_then_zeros slot_formed row.fields own) (pairwise slot_fits row.fields own) (ruled row.fields own priority))
    ≡ first (key_order row k)
unfolding key_formed key_fits key_rules
key-lent row k h s p =
    let own : parts 4 35 (part 4 140 (drop 4 k)) ≡ parts 4 35 (drop 4 (part 4 144 k)) = ap (parts 4 35) (sym (drop-take 4 144 (drop 4 k))) in
    let e : slots k ≡ parts 4 35 (drop 4 (part 4 144 k)) =
    sym (parts-lent 4 35 (drop 8 k)) ∙ ap (λ (l : List ℕ). parts 4 35 (part 0 140 l)) (sym (drop-drop 4 4 k)) ∙ own in
    let f : int 4 4 k ≡ int 0 4 (part 4 144 k) = ap number (sym (part-part 4 144 0 4 k (omega arith))) in
    rw (s, p, ← h, ← e, ← f)

module _ (row : Row) (e : List ℕ) where
  pub entry-unknown : has_action (action_in e) row.actions ≡ false → key_formed row e && action_formed row e ≡ false
  unfolding action_formed
  entry-unknown n = rw (n, and-false (key_formed row e))

  -- the action that was looked up, and its widths
  pub action_found : (id : ℕ) (o : Option (Bor Action)) (a : Bor Action) {ws : List ℕ} → is_some o ≡ has_action id row.actions
      → IfSome o (λ (x : Bor Action). (action_of x.now).widths ≡ widths_of id row.actions) → id ≡ action_in e → o ≡ Some a
      → ws ≡ (action_of a.now).widths → (has_action (action_in e) row.actions ≡ true) × (ws ≡ widths_of (action_in e) row.actions)
  action_found id o a k w i f g =
      let known = rw f at k in
      let widths = rw f at w in
      (rw (← i) (sym known), g ∙ rw i at widths)

  -- a whole entry, by the widths of its action
  pub entry-lent : {own values : List (List ℕ)} {ws : List ℕ} {priority : ℕ} → has_action (action_in e) row.actions ≡ true
      → ws ≡ widths_of (action_in e) row.actions → own ≡ parts 4 35 (drop 8 e) → values ≡ parts 4 17 (drop 152 e) → priority ≡ int 4 4 e
      → first (check_order (pairwise_then_zeros slot_formed row.fields own && pairwise_then_zeros (λ (width : ℕ). is_value) ws values)
      (pairwise slot_fits row.fields own && pairwise fits ws values) (ruled row.fields own priority)) ≡ first (whole_order row e)
  unfolding key_formed key_fits key_rules action_formed action_fits
  entry-lent k w s v p = rw (s, v, p, w, k)
