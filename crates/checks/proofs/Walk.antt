-- Parts walked beside what they stand for: the library's walk over pairs is the rules'. Assumes nothing.
use Rattle.std.proofs.Common.{◌≡◌, ℕ, Bool, true, false, ◌&&◌, ◌||◌, cond, List, [], ◌∷◌, ◌++◌}
use Rattle.std.proofs.Common.{◌≤◌, length, drop, map, eqb, Option, Some, None, refl, sym, arith}
use Rattle.std.specs.List.{list_all, list_any, zip, find, flat_map}
use Rattle.std.specs.Prelude.{is_some}
use Rattle.std.specs.Borrow.{Bor}
use Rattle.std.specs.Option.{IfSome, option_copied}
use mathlib.Core.Bool.{and_assoc}
use Rattle.rules.specs.Bytes.{every, some_of, all_zero}
use Rattle.rules.specs.Key.{pairwise, pairwise_then_zeros}
use Rattle.rules.specs.Entry.{has_action, widths_of}
use Rattle.rows.specs.declared.Action.{Action}
use Rattle.rows.specs.Meaning.{action_of}

pub pairs-alone : {A : Type 0} (p : A → List ℕ → Bool) (xs : List A) (bs : List (List ℕ)) → length xs ≤ length bs
    → list_all (λ (x : A × List ℕ). p x.0 x.1) (zip xs bs) ≡ pairwise p xs bs
pairs-alone p [] bs h = refl
pairs-alone p (x ∷ xs) [] h = absurd (omega arith)
pairs-alone p (x ∷ xs) (b ∷ bs) h = rw (pairs-alone p xs bs (omega arith))

-- of things that stand for others
pub pairs : {A B : Type 0} (f : A → B) (p : B → List ℕ → Bool) (xs : List A) (bs : List (List ℕ)) → length xs ≤ length bs
    → list_all (λ (x : A × List ℕ). p (f x.0) x.1) (zip xs bs) ≡ pairwise p (map f xs) bs
pairs f p [] bs h = refl
pairs f p (x ∷ xs) [] h = absurd (omega arith)
pairs f p (x ∷ xs) (b ∷ bs) h = rw (pairs f p xs bs (omega arith))

-- zeros together are zeros each
every-append : (p : ℕ → Bool) (xs ys : List ℕ) → every p (xs ++ ys) ≡ (every p xs && every p ys)
every-append p [] ys = refl
every-append p (x ∷ xs) ys = rw (every-append p xs ys) (sym (and_assoc (p x) (every p xs) (every p ys)))

zeros-each : (bs : List (List ℕ)) → all_zero (flat_map (λ (b : List ℕ). b) bs) ≡ every all_zero bs
zeros-each [] = refl
zeros-each (b ∷ bs) = rw (every-append (eqb 0) b (flat_map (λ (b : List ℕ). b) bs), zeros-each bs)

-- the parts that are used pass, and those after them are zeros
pub then-zeros : {A : Type 0} (p : A → List ℕ → Bool) (xs : List A) (bs : List (List ℕ))
    → (pairwise p xs bs && all_zero (flat_map (λ (b : List ℕ). b) (drop (length xs) bs))) ≡ pairwise_then_zeros p xs bs
then-zeros p [] bs = zeros-each bs
then-zeros p (x ∷ xs) [] = refl
then-zeros p (x ∷ xs) (b ∷ bs) = rw (← then-zeros p xs bs) (and_assoc (p x b) (pairwise p xs bs) _)

module _ {A : Type 0} (p : A → List ℕ → Bool) (xs : List A) (bs : List (List ℕ)) {n : ℕ} {r z : Bool} {rest : List ℕ} where
  -- asked so: of those that are used, and then of the rest
  pub asked : r ≡ pairwise p xs bs → n ≡ length xs → rest ≡ flat_map (λ (b : List ℕ). b) (drop n bs) → z ≡ all_zero rest
      → (r && z) ≡ pairwise_then_zeros p xs bs
  asked e l f g = rw (e, g, f, l) (then-zeros p xs bs)

-- a search among the actions that are held is the rules' search
abbrev pub is_of : ℕ → Action → Bool
is_of id a = eqb (action_of a).id id

pub action-known : (id : ℕ) (actions : List Action) → is_some (find (is_of id) actions) ≡ has_action id (map action_of actions)
action-known id [] = refl
action-known id (a ∷ actions) = go (is_of id a) (action-known id actions)
  where
    go : (b : Bool) → is_some (find (is_of id) actions) ≡ has_action id (map action_of actions)
        → is_some (cond b (Some a) (find (is_of id) actions)) ≡ (b || has_action id (map action_of actions))
    go true h = refl
    go false h = h

pub action-widths : (id : ℕ) (actions : List Action)
    → IfSome (find (is_of id) actions) (λ (a : Action). (action_of a).widths ≡ widths_of id (map action_of actions))
action-widths id [] = tt
action-widths id (a ∷ actions) = go (is_of id a) (action-widths id actions)
  where
    go : (b : Bool) → IfSome (find (is_of id) actions) (λ (x : Action). (action_of x).widths ≡ widths_of id (map action_of actions))
        → IfSome (cond b (Some a) (find (is_of id) actions))
        (λ (x : Action). (action_of x).widths ≡ cond b (action_of a).widths (widths_of id (map action_of actions)))
    go true h = refl
    go false h = h

-- what holds of the action that was found holds of the one that is lent
pub widths-behind : (ws : List ℕ) (o : Option (Bor Action)) → IfSome (option_copied o) (λ (a : Action). (action_of a).widths ≡ ws)
    → IfSome o (λ (a : Bor Action). (action_of a.now).widths ≡ ws)
widths-behind ws None h = tt
widths-behind ws (Some a) h = h

pub some-map : {A B : Type 0} (p : B → Bool) (f : A → B) (xs : List A) → list_any (λ (x : A). p (f x)) xs ≡ some_of p (map f xs)
some-map p f [] = refl
some-map p f (x ∷ xs) = rw (some-map p f xs)
