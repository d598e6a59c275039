-- A configuration is allowed where each row is so by itself and their tables and sizes are so together; allowed rows have counts
-- that fit, so that they are held as the rules read them. Assumes nothing.
use Prim.Native.Nat.{ℕ, ◌*◌, ◌≤◌}
use mathlib.Core.Path.{◌≡◌, refl, sym, ◌∙◌}
use mathlib.Core.Bool.{Bool, true, ◌&&◌, and_assoc, and_comm}
use mathlib.Core.List.{List, [], ◌∷◌, map, map-map}
use lib.Dec.{eqb, leb}
use lib.ListN.{length, length-map}
use Rattle.rules.specs.Bytes.{between, every, sum, distinct, byte, parts}
use Rattle.rules.specs.Frame.{row_size}
use Rattle.rules.specs.Row as rules
use Rattle.rules.proofs.Tests.{and-true, both_true}
use Rattle.rules.proofs.Formed.{parts-count}
use Rattle.rules.proofs.Lists.{every_map}
use Rattle.rows.specs.Meaning.{row_read, counts_fit}
use Rattle.configuration.specs.Passing.{ids, rows_pass, table_sizes}
use Rattle.configuration.proofs.OneRow.{every-both}
use Rattle.rows.proofs.Records.{few_parameters, rows-held}

-- ---- tests of all elements of a list

every-weaker : {A : Type 0} (p q : A → Bool) → ((x : A) → p x ≡ true → q x ≡ true) → (l : List A) → every p l ≡ true
    → every q l ≡ true
every-weaker p q w [] e = refl
every-weaker p q w (x ∷ l) e =
    let h = and-true (p x) (every p l) e in
    both_true (w x h.0) (every-weaker p q w l h.1)

-- ---- a row by itself

abbrev passes : List ℕ → Bool
passes b = rules.row_allowed (rules.row_of b)

abbrev pub alone : List ℕ → Bool
alone b = passes b && rules.unused_zero b

-- as many are read of parts as their count says
count-is : {B : Type 0} (f : List ℕ → B) (n w : ℕ) (l : List ℕ) → length (map f (parts n w l)) ≡ n
count-is f n w l = length-map (parts n w l) f ∙ parts-count n w l

few-widths : (a : rules.Action) → rules.action_allowed a ≡ true → leb (length a.widths) 4 ≡ true
few-widths a e =
    let top : Bool = eqb (rules.top_byte a.id) 0x01 in
    let few : Bool = leb (length a.widths) 4 in
    (and-true top few (and-true (top && few) (every rules.width_allowed a.widths) e).0).1

few-parameters : (a : List ℕ) → rules.action_allowed (rules.action_of a) ≡ true → leb (rules.parameter_count a) 4 ≡ true
unfolding rules.action_of
few-parameters a e = rw (count-is (byte 0) (rules.parameter_count a) 1 (rules.width_bytes a)) at (few-widths (rules.action_of a) e)

abbrev FewParts : rules.Row → Type 0
FewParts row =
    (leb (length row.fields) 4 ≡ true) × (leb (length row.actions) 4 ≡ true)
    × (every rules.action_allowed row.actions ≡ true)

few-parts : (row : rules.Row) → rules.row_allowed row ≡ true → FewParts row
unfolding rules.row_allowed
few-parts row e =
    let head : Bool = eqb (rules.top_byte row.table) 0x02 && leb row.owner 7 && leb 1 row.size in
    let m : Bool = between 1 4 (length row.fields) in
    let fields : Bool = every rules.field_allowed row.fields in
    let n : Bool = between 1 4 (length row.actions) in
    let actions : Bool = every rules.action_allowed row.actions in
    let once : Bool = distinct (map (λ (a : rules.Action). a.id) row.actions) in
    let p = and-true (head && m && fields && n) actions (and-true (head && m && fields && n && actions) once e).0 in
    let q = and-true (head && m && fields) n p.0 in
    let r = and-true head m (and-true (head && m) fields q.0).0 in (
      (and-true (leb 1 (length row.fields)) (leb (length row.fields) 4) r.1).1,
      (and-true (leb 1 (length row.actions)) (leb (length row.actions) 4) q.1).1,
      p.1,
    )

-- an allowed row has counts of at most 4
counts-fit : (b : List ℕ) → alone b ≡ true → counts_fit b ≡ true
unfolding rules.row_of counts_fit
counts-fit b e =
    both_true
    (both_true (rw (count-is rules.field_of (rules.field_count b) 2 (rules.field_bytes b)) at few.0)
    (rw (count-is rules.action_of n 9 l) at few.1))
    (every-weaker (λ (a : List ℕ). rules.action_allowed (rules.action_of a)) few_parameters few-parameters (parts n 9 l)
    (sym (every_map rules.action_allowed rules.action_of (parts n 9 l)) ∙ few.2))
  where
    n : ℕ
    n = rules.action_count b

    l : List ℕ
    l = rules.action_bytes b

    few : FewParts (rules.row_of b)
    few = few-parts (rules.row_of b) (and-true (passes b) (rules.unused_zero b) e).0

-- ---- the rows together

abbrev pub size_of : List ℕ → ℕ
size_of b = (rules.row_of b).size

-- 14 of them: each by itself, no table id repeated, and the sizes
pub configuration-asked : (rows : List (List ℕ)) → rules.configuration_allowed rows ≡ (rows_pass rows && leb (sum (table_sizes rows)) 256)
unfolding rules.configuration_allowed rules.rows_allowed rows_pass ids table_sizes rules.row_of
configuration-asked rows =
    rw (
      every_map rules.row_allowed rules.row_of rows,
      map-map (λ (r : rules.Row). r.table) rules.row_of rows,
      map-map (λ (r : rules.Row). r.size) rules.row_of rows,
      every-both passes rules.unused_zero rows,
    )
    (last-second (every passes rows) (distinct (ids rows)) (leb (sum (map size_of rows)) 256) (every rules.unused_zero rows))
  where
    last-second : (own once few unused : Bool) → own && once && few && unused ≡ own && unused && once && few
    last-second own once few unused = simp (and_assoc, and_comm)

-- ---- holding them

-- allowed rows are held as the rules read them
pub rows-allowed-held : (t : ℕ) (b : List ℕ) → row_size * t ≤ length b → rules.configuration_allowed (parts t row_size b) ≡ true
    → map row_read (parts t row_size b) ≡ map rules.row_of (parts t row_size b)
unfolding rows_pass
rows-allowed-held t b h e =
    let rows = parts t row_size b in
    let pass = (and-true (rows_pass rows) (leb (sum (table_sizes rows)) 256) (sym (configuration-asked rows) ∙ e)).0 in
    let own = (and-true (every alone rows) (distinct (ids rows)) pass).0 in
    rows-held t b h (every-weaker alone counts_fit counts-fit rows own)
