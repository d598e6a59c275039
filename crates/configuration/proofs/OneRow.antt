-- 14 decided on a row's bytes is 14 of the rules: the fields, widths and actions are parts of the bytes, asked one after another,
-- and the order of the tests changes nothing. Assumes nothing.
use Rattle.std.proofs.Common.{◌≡◌, ℕ, ◌*◌, ◌≤◌, Bool, true, false, ◌&&◌, if◌then◌else◌, List, [], ◌∷◌, length, drop, map, eqb, leb}
use Rattle.std.proofs.Common.{refl, arith}
use Rattle.std.proofs.lemmas.List.{length-map}
use mathlib.Core.Bool.{and_assoc, and_comm}
use mathlib.Core.List.{map-map}
use Rattle.std.specs.List.{list_any}
use Rattle.rules.specs.Bytes.{between, every, some_of, distinct, byte, parts, int, all_zero}
use Rattle.rules.specs.Row as rules
use Rattle.rules.proofs.Formed.{parts-count}
use Rattle.rules.proofs.Lists.{every_map}
use Rattle.buffers.proofs.Words.{Bytes}
use Rattle.numbers.proofs.Bytes.{int-none, int-next}
use Rattle.configuration.specs.Passing.{fields_pass, action_passes, ids, actions_pass}
use Rattle.configuration.proofs.Counted.{few}

-- ---- tests over lists

and-left-comm : (a b c : Bool) → a && (b && c) ≡ b && (a && c)
and-left-comm true b c = refl
and-left-comm false true c = refl
and-left-comm false false c = refl

pub every-both : {A : Type 0} (p q : A → Bool) (l : List A) → every (λ (x : A). p x && q x) l ≡ (every p l && every q l)
every-both p q [] = refl
every-both p q (x ∷ l) = rw (every-both p q l) (simp (and_assoc, and-left-comm))

-- ---- ids that records begin with

some-any : {A : Type 0} (p : A → Bool) (l : List A) → list_any p l ≡ some_of p l
some-any p [] = refl
some-any p (x ∷ l) = rw (some-any p l)

pub ids-none : (records : List (List ℕ)) → length records ≡ 0 → distinct (ids records) ≡ true
unfolding ids
ids-none [] e = refl
ids-none (r ∷ records) e = absurd (omega arith)

-- the first is repeated, or the others decide
pub ids-asked : (first : List ℕ) (later : List (List ℕ)) {records : List (List ℕ)} {id : ℕ} {r : Bool} → records ≡ first ∷ later
    → id ≡ int 0 4 first → r ≡ list_any (eqb id) (map (int 0 4) later)
    → distinct (ids records) ≡ (if r then false else distinct (ids later))
unfolding ids
ids-asked first later e f h = rw (e, h, f, some-any (eqb (int 0 4 first)) (map (int 0 4) later))

-- ---- fields

-- a field of two bytes
abbrev pub field_passes : List ℕ → Bool
field_passes f = rules.field_allowed (rules.field_of f)

-- the tests of a count first, and of what is past it
four-in-turn : (one four each past : Bool) → one && four && each && past ≡ four && past && (each && one)
four-in-turn one four each past = simp (and_assoc, and_comm, and-left-comm)

pub fields-asked : (b : List ℕ) → fields_pass b
    ≡ (few 2 (rules.field_count b) (rules.field_bytes b)
    && (every field_passes (parts (rules.field_count b) 2 (rules.field_bytes b)) && leb 1 (rules.field_count b)))
unfolding fields_pass
fields-asked b =
    let n : ℕ = rules.field_count b in
    let fs : List (List ℕ) = parts n 2 (rules.field_bytes b) in
    rw (every_map rules.field_allowed rules.field_of fs)
    (four-in-turn (leb 1 n) (leb n 4) (every field_passes fs) (all_zero (drop (2 * n) (rules.field_bytes b))))

-- ---- one action

-- the top byte of four is the first
top_byte_lem : (l : List ℕ) → 4 ≤ length l → Bytes l → rules.top_byte (int 0 4 l) ≡ byte 0 l
top_byte_lem l h k =
    omega (
      arith,
      int-none 0 l,
      int-next 0 0 l (omega arith),
      int-next 0 1 l (omega arith),
      int-next 0 2 l (omega arith),
      int-next 0 3 l (omega arith),
      k.at 0,
      k.at 1,
      k.at 2,
      k.at 3,
    )

-- a width of one byte
abbrev pub width_passes : List ℕ → Bool
width_passes w = rules.width_allowed (byte 0 w)

pub action-asked : (a : List ℕ) → 4 ≤ length a → Bytes a → action_passes a
    ≡ (few 1 (rules.parameter_count a) (rules.width_bytes a)
    && (every width_passes (parts (rules.parameter_count a) 1 (rules.width_bytes a)) && eqb (byte 0 a) 1))
unfolding action_passes rules.action_of
action-asked a h k =
    let n : ℕ = rules.parameter_count a in
    let ps : List (List ℕ) = parts n 1 (rules.width_bytes a) in
    let one : 1 * n ≡ n = omega arith in
    rw (
      top_byte_lem a h k,
      length-map ps (byte 0),
      parts-count n 1 (rules.width_bytes a),
      every_map rules.width_allowed (byte 0) ps,
      one,
    )
    (four-in-turn (eqb (byte 0 a) 1) (leb n 4) (every width_passes ps) (rules.unused_widths a))

-- ---- the actions

five-in-turn : (one four each once past : Bool) → one && four && each && once && past ≡ four && past && (each && once && one)
five-in-turn one four each once past = simp (and_assoc, and_comm, and-left-comm)

pub actions-asked : (b : List ℕ) → actions_pass b
    ≡ (few 9 (rules.action_count b) (rules.action_bytes b)
    && (every action_passes (parts (rules.action_count b) 9 (rules.action_bytes b))
    && distinct (ids (parts (rules.action_count b) 9 (rules.action_bytes b))) && leb 1 (rules.action_count b)))
unfolding actions_pass
actions-asked b =
    let n : ℕ = rules.action_count b in
    let ps : List (List ℕ) = parts n 9 (rules.action_bytes b) in
    five-in-turn (leb 1 n) (leb n 4) (every action_passes ps) (distinct (ids ps)) (all_zero (drop (9 * n) (rules.action_bytes b)))

-- ---- a row

-- the two orders of the tests
regroup : (table owner size nf fields na actions ids fz az wz : Bool)
    → (table && owner && size && nf && fields && na && actions && ids && (fz && az && wz))
    ≡ (table && owner && size && (nf && fields && fz) && (na && (actions && wz) && ids && az))
regroup table owner size nf fields na actions ids fz az wz = simp (and_assoc, and_comm, and-left-comm)

pub row-asked : (b : List ℕ) → 4 ≤ length b → Bytes b → (rules.row_allowed (rules.row_of b) && rules.unused_zero b)
    ≡ (eqb (byte 0 b) 2 && leb (byte 4 b) 7 && leb 1 (rules.row_of b).size && fields_pass b && actions_pass b)
unfolding rules.row_allowed rules.row_of rules.unused_zero fields_pass actions_pass action_passes rules.action_of ids
row-asked b h k =
    let nf : ℕ = rules.field_count b in
    let na : ℕ = rules.action_count b in
    let fb : List ℕ = rules.field_bytes b in
    let ab : List ℕ = rules.action_bytes b in
    let fs : List (List ℕ) = parts nf 2 fb in
    let acts : List (List ℕ) = parts na 9 ab in
    let allowed : List ℕ → Bool = λ a. rules.action_allowed (rules.action_of a) in
    rw (
      top_byte_lem b h k,
      length-map fs rules.field_of,
      parts-count nf 2 fb,
      length-map acts rules.action_of,
      parts-count na 9 ab,
      every_map rules.action_allowed rules.action_of acts,
      map-map (λ (a : rules.Action). a.id) rules.action_of acts,
      every-both allowed rules.unused_widths acts,
    )
    (regroup (eqb (byte 0 b) 2) (leb (byte 4 b) 7) (leb 1 (int 5 2 b)) (between 1 4 nf) (every rules.field_allowed (map rules.field_of fs))
    (between 1 4 na) (every allowed acts) (distinct (ids acts)) (all_zero (drop (2 * nf) fb)) (all_zero (drop (9 * na) ab))
    (every rules.unused_widths acts))
