-- What a frame reads as has operands in range and parts of full length, since the reader tests length and counts.
-- Assumes nothing.
use Rattle.std.specs.Prelude.{if◌then◌else◌}
use Prim.Native.Nat.{ℕ, zero, suc, ◌+◌, ◌-◌, ◌*◌, ◌≤◌}
use mathlib.Core.Path.{◌≡◌, refl, ap}
use mathlib.Core.Bool.{Bool, true, false, ◌&&◌, ◌||◌, not, false≢true}
use mathlib.Core.List.{List, [], ◌∷◌, ◌++◌, map}
use native.Mathlib.Omega.{arith}
use lib.Dec.{eqb}
use lib.ListN.{length, drop, length-take, length-drop, length-append, length-map}
use lib.Seq.{take_at}
use borrow.Author.Tests.{eqb-true, leb-true}
use Rattle.rules.specs.Bytes.{byte, part, parts, int, number, all_zero}
use Rattle.rules.specs.Frame.{Update, Command, too_short, malformed, OPEN, CLOSE, ARBITRATE, CONFIGURE, WRITE, READ, head_at}
use Rattle.rules.specs.Frame.{update_of, query_of, head_fits, stream_fits, stream_formed, arbitrate_formed, configure_formed}
use Rattle.rules.specs.Frame.{write_formed, read_formed, configure_of, write_of, read_frame, on_streams, on_pipeline, on_tables}
use Rattle.rules.specs.Key.{table_of}
use Rattle.rules.specs.Call.{Call, long_enough, command_of}
use Rattle.rules.proofs.Tests.{and-true}

-- every part has the length n
abbrev pub EveryLength : ℕ → List (List ℕ) → Type 0
EveryLength n [] = Unit {0}
EveryLength n (x ∷ xs) = (length x ≡ n) × EveryLength n xs

-- every update has an entry of 220 bytes
abbrev pub Whole : List Update → Type 0
Whole [] = Unit {0}
Whole (u ∷ us) = (length u.entry ≡ 220) × Whole us

pub whole-place : (earlier : List Update) (u : Update) (later : List Update) → Whole (earlier ++ u ∷ later)
    → Whole earlier × (length u.entry ≡ 220)
whole-place [] u later w = (tt, w.0)
whole-place (v ∷ earlier) u later w = let r = whole-place earlier u later w.1 in ((w.0, r.0), r.1)

-- what the reader tests
abbrev pub Formed : Command → Type 0
Formed too_short = Unit {0}
Formed malformed = Unit {0}
Formed (on_streams (OPEN n)) = n ≤ 31
Formed (on_streams (CLOSE n)) = n ≤ 31
Formed (on_streams (ARBITRATE n h)) = n ≤ 31
Formed (on_pipeline (CONFIGURE h rows)) = EveryLength 53 rows
Formed (on_tables (WRITE h atomicity us)) = (length us ≤ 64) × Whole us
Formed (on_tables (READ q)) = (length q.key ≡ 148) × (table_of q.key ≡ q.table) × (q.only ≡ 1 → q.table ≡ 0 → ⊥)

abbrev pub EveryFormed : List Command → Type 0
EveryFormed [] = Unit {0}
EveryFormed (c ∷ cs) = Formed c × EveryFormed cs

-- ---- parts

pub parts-count : (n w : ℕ) (l : List ℕ) → length (parts n w l) ≡ n
unfolding parts
parts-count zero w l = refl
parts-count (suc n) w l = omega (arith, parts-count n w (drop w l))

pub parts-lengths : (n w : ℕ) (l : List ℕ) → n * w ≤ length l → EveryLength w (parts n w l)
unfolding parts
parts-lengths zero w l h = tt
parts-lengths (suc n) w l h =
    let d : length (drop w l) ≡ length l - w = length-drop w l in
    (simp length-take (omega arith), parts-lengths n w (drop w l) (omega arith))

pub whole-updates : (ls : List (List ℕ)) → EveryLength 221 ls → Whole (map update_of ls)
whole-updates [] h = tt
whole-updates (l ∷ ls) h = (omega (arith, length-drop 1 l, h.0), whole-updates ls h.1)

-- ---- the reader

module _ (P : Command → Type 0) where
  choose : (b : Bool) (x y : Command) → (b ≡ true → P x) → P y → P (if b then x else y)
  choose true x y h k = h refl
  choose false x y h k = k

  -- what holds of a malformed frame, and of each command where its frame passes, holds of what the reader hands on
  pub read-law : (f : List ℕ) → P malformed → (stream_formed f ≡ true → P (on_streams (OPEN (byte 1 f))) × P (on_streams (CLOSE (byte 1 f))))
      → (arbitrate_formed f ≡ true → P (on_streams (ARBITRATE (byte 1 f) (head_at 2 f))))
      → (configure_formed (byte 27 f) f ≡ true → P (configure_of (byte 27 f) f))
      → (write_formed (byte 28 f) f ≡ true → P (write_of (byte 28 f) f))
      → (read_formed f ≡ true → P (on_tables (READ (query_of f)))) → P (read_frame f)
  unfolding read_frame
  read-law [] bad stream arbitrate configure write read = bad
  read-law (c ∷ operands) bad stream arbitrate configure write read =
      choose (eqb c 0x01) _ _ (λ h. choose (stream_formed f) _ _ (λ e. (stream e).0) bad)
      (choose (eqb c 0x02) _ _ (λ h. choose (stream_formed f) _ _ (λ e. (stream e).1) bad)
      (choose (eqb c 0x03) _ _ (λ h. choose (arbitrate_formed f) _ _ arbitrate bad)
      (choose (eqb c 0x04) _ _ (λ h. choose (configure_formed (byte 27 f) f) _ _ configure bad)
      (choose (eqb c 0x05) _ _ (λ h. choose (write_formed (byte 28 f) f) _ _ write bad)
      (choose (eqb c 0x06) _ _ (λ h. choose (read_formed f) _ _ read bad) bad)))))
    where
      f : List ℕ
      f = c ∷ operands

  -- and of the command of a call
  pub call-law : (room : ℕ) (c : Call) → P too_short → P (read_frame c.frame) → P (command_of room c)
  unfolding command_of
  call-law room c short read = choose (long_enough room c.buffer) _ _ (λ h. read) short

-- no frame is refused under 2: that is for buffers
pub frame-read : (f : List ℕ) → read_frame f ≡ too_short → ⊥
unfolding configure_of write_of
frame-read f =
    read-law (λ (c : Command). c ≡ too_short → ⊥) f (λ z. let w : ◌≡◌ {A = ℕ} 0 1 = cc in omega arith)
    (λ h. (λ z. let w : ◌≡◌ {A = ℕ} 0 1 = cc in omega arith, λ z. let w : ◌≡◌ {A = ℕ} 0 1 = cc in omega arith))
    (λ h z. let w : ◌≡◌ {A = ℕ} 0 1 = cc in omega arith) (λ h z. let w : ◌≡◌ {A = ℕ} 0 1 = cc in omega arith)
    (λ h z. let w : ◌≡◌ {A = ℕ} 0 1 = cc in omega arith) (λ h z. let w : ◌≡◌ {A = ℕ} 0 1 = cc in omega arith)

stream-fits : (f : List ℕ) → stream_formed f ≡ true → byte 1 f ≤ 31
unfolding stream_formed
stream-fits f h = leb-true (byte 1 f) 31 (and-true (eqb (length f) 2) (stream_fits f) h).1

arbitrate-fits : (f : List ℕ) → arbitrate_formed f ≡ true → byte 1 f ≤ 31
unfolding arbitrate_formed
arbitrate-fits f h =
    leb-true (byte 1 f) 31
    (and-true (eqb (length f) 28) (stream_fits f) (and-true (eqb (length f) 28 && stream_fits f) (head_fits 2 f) h).0).1

rows_fit : (t : ℕ) (f : List ℕ) → configure_formed t f ≡ true → Formed (configure_of t f)
unfolding configure_formed configure_of
rows_fit t f h =
    let e : length f ≡ 28 + 53 * t = eqb-true _ _ (and-true _ _ (and-true _ _ h).0).0 in
    parts-lengths t 53 (drop 28 f) (omega (arith, length-drop 28 f))

updates-fit : (n : ℕ) (f : List ℕ) → write_formed n f ≡ true → Formed (write_of n f)
unfolding write_formed write_of
updates-fit n f h =
    let a = and-true _ _ (and-true _ _ h).0 in
    let b = and-true _ _ a.0 in
    let e : length f ≡ 29 + 221 * n = eqb-true _ _ b.0 in
    let small : n ≤ 64 = leb-true n 64 b.1 in (
      omega (arith, length-map (parts n 221 (drop 29 f)) update_of, parts-count n 221 (drop 29 f)),
      whole-updates (parts n 221 (drop 29 f)) (parts-lengths n 221 (drop 29 f) (omega (arith, length-drop 29 f))),
    )

-- a READ of one key names its table: only 1 with table 0 is malformed
one-named : (only table : ℕ) (blank : Bool) → (eqb only 0 && blank) || (eqb only 1 && not (eqb table 0)) ≡ true
    → only ≡ 1 → table ≡ 0 → ⊥
one-named only table blank h o t = false≢true (rw (o, t) at h)

query-fits : (f : List ℕ) → read_formed f ≡ true → Formed (on_tables (READ (query_of f)))
unfolding read_formed
query-fits f h =
    let a = and-true _ _ h in
    let e : length f ≡ 159 = eqb-true _ _ a.0 in
    let l : length (part 10 4 f) ≡ 4 = simp (length-take, length-drop) (omega arith) in (
      simp (length-append, length-take, length-drop) (omega arith),
      ap number (take_at (part 10 4 f) (part 15 144 f) 4 l),
      one-named (byte 14 f) (int 10 4 f) (all_zero (part 15 144 f)) a.1,
    )

pub frame-formed : (f : List ℕ) → Formed (read_frame f)
frame-formed f =
    read-law Formed f tt (λ h. (stream-fits f h, stream-fits f h)) (arbitrate-fits f) (rows_fit (byte 27 f) f)
    (updates-fit (byte 28 f) f) (query-fits f)

pub call-formed : (room : ℕ) (c : Call) → Formed (command_of room c)
call-formed room c = call-law Formed room c tt (frame-formed c.frame)

pub calls-formed : (room : ℕ) (cs : List Call) → EveryFormed (map (command_of room) cs)
calls-formed room [] = tt
calls-formed room (c ∷ cs) = (call-formed room c, calls-formed room cs)
