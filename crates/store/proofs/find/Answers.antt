-- Right because the entries passed do not have the key: each had another word where the key's is known, or was compared. Assumes nothing.
use Prim.Native.Nat.{ℕ, ◌+◌, ◌-◌, ◌<◌}
use native.Mathlib.Omega.{arith}
use mathlib.Core.Path.{◌≡◌, refl, sym, ap, ap₂, subst, ◌∙◌}
use mathlib.Core.Bool.{Bool, true, false}
use mathlib.Core.List.{List, [], ◌++◌}
use lib.ListN.{length, get_or}
use Rattle.rules.specs.Key.{has_key, key_of, same_key, short_key}
use Rattle.keys.specs.Rest.{ProbeOf}
use Rattle.store.specs.Store.{place, PassedOver}
use Rattle.store.proofs.Scan.{searched, searched-next, searched-skip, searched-none, probe-differs, key-said}
use Rattle.store.proofs.find.Goals as goal
use Rattle.store.proofs.find.Goals.{then-has_word+else-is, else-has_word}

module _ (es : List (List ℕ)) (t r : List ℕ) (four : length t ≡ 4) (long : length r ≡ 144) where
  abbrev key : List ℕ
  key = short_key (t ++ r)

  -- the key is where it is among the entries from i on
  abbrev Left : ℕ → Type 0
  Left i = place key es ≡ searched es key i

  -- the entries that are passed over do not have the key
  reached : {i n at word : ℕ} → ProbeOf r at word → PassedOver i n at word es → Left i → Left n
  reached {i} {n} {at} {word} probe o left =
      let past : i + (n - i) ≡ n = omega (arith, o.later) in
      let inside : n < length es = o.inside in
      left
      ∙ searched-skip es key i (n - i) (omega arith)
      (λ j g h. probe-differs (get_or es j []) t r at word four long probe (o.apart j g (omega arith)))
      ∙ ap (searched es key) past

  -- an entry was compared
  compared : {b : Bool} {k t' r' : List ℕ} (e : List ℕ) → length e ≡ 220 → k ≡ key_of e → t' ≡ t → r' ≡ r → b ≡ same_key k (t' ++ r') → has_key key e ≡ b
  compared {b} {k} {t'} {r'} e size its p q said =
      sym (said ∙ ap (λ (x : List ℕ). same_key x (t' ++ r')) its ∙ ap₂ (λ (x y : List ℕ). same_key (key_of e) (x ++ y)) p q ∙ key-said e t r size four long)

pub loop-i-init : goal.loop-i-init
loop-i-init c =
    (subst (λ (r : List ℕ). ProbeOf r c.first_probe-probe.result.at c.first_probe-probe.result.word) c.new-sought.ensures.rest c.first_probe-probe.ensures, refl)

pub returns-then-is-clause-place : goal.returns-then-is-clause-place
returns-then-is-clause-place c =
    let es : List (List ℕ) = c.args.entries.now in
    let t : List ℕ = c.args.table.now in
    let r : List ℕ = c.args.rest.now in
    let i : ℕ = c.pass_over-i.result in
    let o = c.pass_over-i.ensures in
    let has : has_key (short_key (t ++ r)) (get_or es i []) ≡ true =
    compared es t r c.requires.0 c.requires.1 (get_or es i []) (c.told-entries i o.inside) c.key_of-key.ensures c.new-sought.ensures.table c.new-sought.ensures.rest c.is.ensures
    ∙ c.if-is.true in
    sym (reached es t r c.requires.0 c.requires.1 c.loop-i.invariant.0 o c.loop-i.invariant.1
    ∙ searched-next es (short_key (t ++ r)) i true o.inside has)

pub loop-i-preserved : goal.loop-i-preserved
loop-i-preserved c =
    let es : List (List ℕ) = c.args.entries.now in
    let t : List ℕ = c.args.table.now in
    let r : List ℕ = c.args.rest.now in
    let i : ℕ = c.pass_over-i.result in
    let o = c.pass_over-i.ensures in
    let next : has_key (short_key (t ++ r)) (get_or es i []) ≡ false
    → place (short_key (t ++ r)) es ≡ searched es (short_key (t ++ r)) (i + 1) =
    λ other. reached es t r c.requires.0 c.requires.1 c.loop-i.invariant.0 o c.loop-i.invariant.1
    ∙ searched-next es (short_key (t ++ r)) i false o.inside other in
    elim c.if-has_word.branch [
      | then-has_word+else-is w ↦ (
        rw w.probe-is (subst (λ (x : List ℕ). ProbeOf x w.next_probe-probe.result.at w.next_probe-probe.result.word) c.new-sought.ensures.rest w.next_probe-probe.ensures),
        next (compared es t r c.requires.0 c.requires.1 (get_or es i []) (c.told-entries i o.inside) w.key_of-key.ensures c.new-sought.ensures.table c.new-sought.ensures.rest w.is.ensures
            ∙ w.if-is.false),
      )
      | else-has_word w ↦ (
        rw w.probe-is c.loop-i.invariant.0,
        next (probe-differs (get_or es i []) t r c.loop-i.probe.at c.loop-i.probe.word c.requires.0 c.requires.1 c.loop-i.invariant.0
            (sym c.has_word.ensures ∙ w.if-has_word.false)),
      )
    ]

pub returns-clause-place : goal.returns-clause-place
returns-clause-place c =
    sym (c.loop-i.invariant.1 ∙ searched-none c.args.entries.now (short_key (c.args.table.now ++ c.args.rest.now)) c.loop-i.i (omega arith))
