-- Document 01's sentences on presence ("Looking back"), as statements about what took effect, oldest first. They are proved to
-- single out the list that `present` computes (proofs/Presence.antt). Assumes nothing.
use Rattle.std.specs.Prelude.{◌≡◌, Bool, true, false, ◌⊎◌, ◌↔◌, List, [], ◌∷◌, ◌++◌, ℕ}
use Rattle.rules.specs.Bytes.{some_of, same}
use Rattle.rules.specs.Key.{key_of}
use Rattle.rules.specs.LookBack.{Effect, inserted, modified, deleted, cleared}

-- ---- effects on a key

-- an INSERT of the key
abbrev pub inserts_key : List ℕ → Effect → Bool
inserts_key k (inserted x) = same (key_of x) k
inserts_key k (modified x) = false
inserts_key k (deleted j) = false
inserts_key k cleared = false

-- an INSERT or MODIFY of the key
abbrev pub sets_key : List ℕ → Effect → Bool
sets_key k (inserted x) = same (key_of x) k
sets_key k (modified x) = same (key_of x) k
sets_key k (deleted j) = false
sets_key k cleared = false

-- an INSERT or MODIFY that gives exactly this entry
abbrev pub sets_entry : List ℕ → Effect → Bool
sets_entry e (inserted x) = same x e
sets_entry e (modified x) = same x e
sets_entry e (deleted j) = false
sets_entry e cleared = false

-- a DELETE of the key, or an accepted CONFIGURE
abbrev pub removes_key : List ℕ → Effect → Bool
removes_key k (inserted x) = false
removes_key k (modified x) = false
removes_key k (deleted j) = same j k
removes_key k cleared = true

-- such an effect, and after it none of those
pub record Since (such those : Effect → Bool) (effects : List Effect) : Type 0 where
  pub before : List Effect
  pub effect : Effect
  pub after : List Effect
  pub place : effects ≡ before ++ effect ∷ after
  pub this : such effect ≡ true
  pub none-later : some_of those after ≡ false

-- ---- presence

-- An entry is present exactly when an INSERT of its key took effect and no later DELETE of it and no later accepted CONFIGURE
-- did. Its action and parameters are those of the latest INSERT or MODIFY of the key that took effect.
pub record Present (effects : List Effect) (e : List ℕ) : Type 0 where
  pub inserting : Since (inserts_key (key_of e)) (removes_key (key_of e)) effects
  pub setting : Since (sets_entry e) (sets_key (key_of e)) effects

-- The latest INSERT of key k comes before the latest INSERT of key j.
pub record Before (effects : List Effect) (k j : List ℕ) : Type 0 where
  pub start : List Effect
  pub first : Effect
  pub rest : List Effect
  pub place : effects ≡ start ++ first ∷ rest
  pub this : inserts_key k first ≡ true
  pub none-later : some_of (inserts_key k) rest ≡ false
  pub other : Since (inserts_key j) (inserts_key j) rest

-- x is in a list
abbrev pub In : List ℕ → List (List ℕ) → Type 0
In x [] = ⊥
In x (y ∷ l) = (x ≡ y) ⊎ In x l

-- every entry of a list has the relation R to every one after it
abbrev pub Ordered : (List ℕ → List ℕ → Type 0) → List (List ℕ) → Type 0
Ordered R [] = Unit {0}
Ordered R (x ∷ l) = ((y : List ℕ) → In y l → R x y) × Ordered R l

-- A list as document 01 describes the entries present: exactly those, each key once, in the order of the latest INSERTs.
pub record Describes (effects : List Effect) (l : List (List ℕ)) : Type 0 where
  pub members : (e : List ℕ) → In e l ↔ Present effects e
  pub once : Ordered (λ (x y : List ℕ). key_of x ≡ key_of y → ⊥) l
  pub order : Ordered (λ (x y : List ℕ). Before effects (key_of x) (key_of y)) l
