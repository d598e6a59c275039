-- Entries are parts of one width: where one is, and what writing over a part, before one, after the last, or over a gap leaves.
-- Assumes nothing.
use Prim.Native.Nat.{ℕ, zero, suc, ◌+◌, ◌*◌, ◌-◌, ◌≤◌, ◌<◌}
use native.Mathlib.Nat.{add-zero}
use native.Mathlib.Omega.{arith}
use mathlib.Core.Path.{◌≡◌, refl, sym, ap, ◌∙◌}
use mathlib.Core.List.{List, [], ◌∷◌, ◌++◌, append_assoc}
use lib.ListN.{length, take, drop, get_or, set, length-drop}
use lib.Seq.{take_at, drop_at, drop-drop, get_or-drop, take-add, length-take-le}
use Rattle.rules.proofs.Lists.{parts_from}
use Rattle.rules.specs.Bytes.{part, parts}
use Rattle.buffers.specs.Splice.{splice}
use Rattle.buffers.proofs.Splice.{take-splice, drop-splice, splice_front, splice-end, length-splice, part-splice, part-back, length-window}
use Rattle.store.specs.declared.Tables.{Tables}
use Rattle.store.specs.Store.{entries_in, without, inserted_at, changed_at, Holds}

-- ---- where a part is

-- part i is the first of those from i on
pub parts_at : (i n w : ℕ) (l : List ℕ) → i < n → get_or (parts n w l) i [] ≡ part (w * i) w l
parts_at i n w l h = sym (rw (parts_from i n w l h, add-zero i) at (get_or-drop i (parts n w l) 0 []))

-- the first n parts are in the first w * n bytes
parts-front : (n w : ℕ) (l rest : List ℕ) → w * n ≤ length l → parts n w (take (w * n) l ++ rest) ≡ parts n w l
unfolding parts
parts-front zero w l rest h = refl
parts-front (suc n) w l rest h =
    let m : w * suc n ≡ w + w * n = omega arith in
    let d : length (drop w l) ≡ length l - w = length-drop w l in
    let t : length (take w l) ≡ w = length-take-le w l (omega arith) in
    let more : List ℕ = take (w * n) (drop w l) ++ rest in
    rw (m, take-add w (w * n) l, append_assoc, take_at (take w l) more w t, drop_at (take w l) more w t)
    (ap {B = List (List ℕ)} (λ r. take w l ∷ r) (parts-front n w (drop w l) rest (omega arith)))

-- ---- writing from the start of a part on

drop-before : (w m : ℕ) (l ys : List ℕ) → w + m ≤ length l → drop w (splice l (w + m) ys) ≡ splice (drop w l) m ys
unfolding splice
drop-before w m l ys h =
    let s : w + m + length ys ≡ w + (m + length ys) = omega arith in
    rw (take-add w m l, append_assoc, s, ← drop-drop (m + length ys) w l)
    (drop_at (take w l) (take m (drop w l) ++ (ys ++ drop (m + length ys) (drop w l))) w (length-take-le w l (omega arith)))

-- over the first part
over_first : (n w : ℕ) (l e : List ℕ) → length e ≡ w → parts (suc n) w (splice l (w * 0) e) ≡ e ∷ parts n w (drop w l)
unfolding parts
over_first n w l e s =
    let z : w * 0 ≡ 0 = omega arith in
    rw (z, splice_front l e, take_at e (drop (length e) l) w s, drop_at e (drop (length e) l) w s, s)

-- after the first part
behind-first : (i n w : ℕ) (l ys : List ℕ) (ps : List (List ℕ)) → w * suc i ≤ length l
    → parts n w (splice (drop w l) (w * i) ys) ≡ ps
    → parts (suc n) w (splice l (w * suc i) ys) ≡ take w l ∷ ps
unfolding parts
behind-first i n w l ys ps h e =
    let m : w * suc i ≡ w + w * i = omega arith in
    rw (m, take-splice w l (w + w * i) ys (omega arith) (omega arith), drop-before w (w * i) l ys (omega arith), e)

-- a part after the first n
pub parts-append : (n w : ℕ) (l e : List ℕ) → w * n ≤ length l → length e ≡ w
    → parts (n + 1) w (splice l (w * n) e) ≡ parts n w l ++ (e ∷ [])
unfolding parts
parts-append zero w l e h s = over_first 0 w l e s
parts-append (suc n) w l e h s =
    let k : suc n + 1 ≡ suc (n + 1) = omega arith in
    let d : length (drop w l) ≡ length l - w = length-drop w l in
    rw k (behind-first n (n + 1) w l e _ h (parts-append n w (drop w l) e (omega arith) s))

-- over part i
parts-replace : (i n w : ℕ) (l e : List ℕ) → i < n → w * i + w ≤ length l → length e ≡ w
    → parts n w (splice l (w * i) e) ≡ set (parts n w l) i e
unfolding parts
parts-replace i zero w l e h g s = absurd (omega arith)
parts-replace zero (suc n) w l e h g s = over_first n w l e s
parts-replace (suc i) (suc n) w l e h g s =
    let d : length (drop w l) ≡ length l - w = length-drop w l in
    behind-first i n w l e _ (omega arith) (parts-replace i n w (drop w l) e (omega arith) (omega arith) s)

-- over a piece of part i
parts-set : (i n w j : ℕ) (l ys : List ℕ) → i < n → w * i + w ≤ length l → j + length ys ≤ w
    → parts n w (splice l (w * i + j) ys) ≡ set (parts n w l) i (splice (part (w * i) w l) j ys)
parts-set i n w j l ys h g b =
    let e : List ℕ = splice (part (w * i) w l) j ys in
    let p : length (part (w * i) w l) ≡ w = length-window (w * i) w l g in
    let s : length e ≡ w = length-splice (part (w * i) w l) j ys (omega arith) ∙ p in
    ap (parts n w) (sym (part-splice l (w * i) w j ys b g) ∙ part-back l (w * i) w e s) ∙ parts-replace i n w l e h g s

-- over the action and parameters of entry i
pub action-over : (i : ℕ) (tables : Tables) (s new : List ℕ) → i < tables.count → tables.count ≤ 256 → 56_320 ≤ length s
    → length new ≡ 72 → Holds s (splice s (220 * i + 148) new) tables (changed_at i new (entries_in tables s))
action-over i tables s new h few room l =
    let old : List ℕ = part (220 * i) 220 s in
    let o : length old ≡ 220 = length-window (220 * i) 220 s (omega arith) in
    rw (parts_at i tables.count 220 s h) (record {
      holds =
          parts-set i tables.count 220 148 s new h (omega arith) (omega arith)
          ∙ ap (set (entries_in tables s) i) (splice-end old 148 new (omega arith));
      few = few;
      room = length-splice s (220 * i + 148) new (omega arith);
      beyond = drop-splice 56_320 s (220 * i + 148) new (omega arith) (omega arith);
    })

-- the parts after part i moved down by one
pub parts-close : (i n w k : ℕ) (l : List ℕ) → i ≤ n → w * suc n ≤ length l → w * i + w + k ≡ w * suc n
    → parts n w (splice l (w * i) (take k (drop (w * i + w) l))) ≡ without i (parts (suc n) w l)
unfolding parts
parts-close zero n w k l h g e =
    let z : w * 0 ≡ 0 = omega arith in
    let y : 0 + w ≡ w = omega arith in
    let m : k ≡ w * n = omega arith in
    let d : length (drop w l) ≡ length l - w = length-drop w l in
    rw (z, y, m, splice_front l (take (w * n) (drop w l))) (parts-front n w (drop w l) _ (omega arith))
parts-close (suc i) zero w k l h g e = absurd (omega arith)
parts-close (suc i) (suc n) w k l h g e =
    let a : w * suc i + w ≡ w + (w * i + w) = omega arith in
    let d : length (drop w l) ≡ length l - w = length-drop w l in
    let r : parts n w (splice (drop w l) (w * i) (take k (drop (w * suc i + w) l))) ≡ without i (parts (suc n) w (drop w l)) =
    rw (a, ← drop-drop (w * i + w) w l) (parts-close i n w k (drop w l) (omega arith) (omega arith) (omega arith)) in
    behind-first i n w l (take k (drop (w * suc i + w) l)) _ (omega arith) r

-- the parts from part i on moved up by one, and a part written before them
pub parts-open : (i n w : ℕ) (l e : List ℕ) (k : ℕ) → i ≤ n → w * n ≤ length l → w * i + k ≡ w * n → length e ≡ w
    → parts (suc n) w (splice l (w * i) (e ++ take k (drop (w * i) l))) ≡ inserted_at i e (parts n w l)
unfolding parts
parts-open zero n w l e k h g m s =
    let z : w * 0 ≡ 0 = omega arith in
    let q : k ≡ w * n = omega arith in
    let ys : List ℕ = e ++ take (w * n) l in
    let rest : List ℕ = take (w * n) l ++ drop (length ys) l in
    rw (z, q, splice_front l ys, append_assoc, take_at e rest w s, drop_at e rest w s)
    (ap {B = List (List ℕ)} (λ r. e ∷ r) (parts-front n w l _ g))
parts-open (suc i) zero w l e k h g m s = absurd (omega arith)
parts-open (suc i) (suc n) w l e k h g m s =
    let a : w * suc i ≡ w + w * i = omega arith in
    let d : length (drop w l) ≡ length l - w = length-drop w l in
    let r : parts (suc n) w (splice (drop w l) (w * i) (e ++ take k (drop (w * suc i) l))) ≡ inserted_at i e (parts n w (drop w l)) =
    rw (a, ← drop-drop (w * i) w l) (parts-open i n w (drop w l) e k (omega arith) (omega arith) (omega arith) s) in
    behind-first i (suc n) w l (e ++ take k (drop (w * suc i) l)) _ (omega arith) r

-- the first m of n parts
pub parts-fewer : (m n w : ℕ) (l : List ℕ) → m ≤ n → take m (parts n w l) ≡ parts m w l
unfolding parts
parts-fewer zero n w l h = refl
parts-fewer (suc m) zero w l h = absurd (omega arith)
parts-fewer (suc m) (suc n) w l h = ap {B = List (List ℕ)} (λ r. take w l ∷ r) (parts-fewer m n w (drop w l) (omega arith))
