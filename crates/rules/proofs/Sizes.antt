-- An answer is at most 56,324 bytes: at most 32 notifications of 20, at most 64 pairs, or at most 256 entries of 220, since the
-- tables that a READ shows hold at most their sizes, which add to 256. Assumes nothing.
use Rattle.std.specs.Prelude.{if◌then◌else◌}
use Prim.Native.Nat.{ℕ, zero, suc, ◌+◌, ◌*◌, ◌/◌, ◌%◌, ◌≤◌}
use mathlib.Core.Path.{◌≡◌, refl, ◌∙◌}
use mathlib.Core.Bool.{Bool, true, false}
use mathlib.Core.List.{List, [], ◌∷◌, ◌++◌, map}
use mathlib.Core.Option.{Option, none, some}
use native.Mathlib.Nat.{le_trans, le_of_eq, mul-le-mul}
use native.Mathlib.Omega.{arith}
use lib.Dec.{eqb}
use lib.ListN.{length, replicate, length-append, length-map, length-set, length-replicate}
use Rattle.rules.specs.Bytes.{keep, concat, sum, between, number_from, int, bytes_of}
use Rattle.rules.specs.Frame.{Head, Update, Query, Command, too_short, malformed, OPEN, CLOSE}
use Rattle.rules.specs.Frame.{ARBITRATE, WRITE, READ, on_streams, on_pipeline, on_tables}
use Rattle.rules.specs.Streams.{Stream, closed, unbound, bound, Streams, numbers, in_role, members, mark_of, notice_of}
use Rattle.rules.specs.Streams.{notification, notify_all, is, primary, become, stream_at, records_on_close, close_reason, open_stream}
use Rattle.rules.specs.Streams.{close_records, close_stream, arbitrate_reason, binds, same_pair, bind_records, arbitrate}
use Rattle.rules.specs.Row.{Row}
use Rattle.rules.specs.Key.{has_key, short_key}
use Rattle.rules.specs.Update.{Tables, in_table, held, judge, apply, each_alone, failure, unless_failed, all_or_none, batch}
use Rattle.rules.specs.Answer.{Answer, answer_bytes, reply_of}
use Rattle.rules.specs.Call.{State, fresh, refusal, accepted, plain, pair_of, head_reason}
use Rattle.rules.specs.Call.{batch_of, asked, gathered, shown, answer, command_of, reply, run}
use Rattle.rules.specs.Agreement.{commands_of, reply_after}
use Rattle.rules.specs.Sound.{EveryStored, Within, Sound}
use Rattle.rules.specs.Sizes.{AnswerFits}
use Rattle.rules.proofs.Formed.{EveryLength, Formed, call-formed}
use Rattle.rules.proofs.Tables.{keep-fewer}
use Rattle.rules.proofs.Counting.{sizes-fit}
use Rattle.rules.proofs.Sound.{sound}

-- ---- lists of records of one length

pub concat-length : (n : ℕ) (xs : List (List ℕ)) → EveryLength n xs → length (concat xs) ≡ n * length xs
concat-length n [] h = omega arith
concat-length n (x ∷ xs) h = omega (arith, length-append x (concat xs), concat-length n xs h.1, h.0)

map-lengths : {A : Type 0} (n : ℕ) (f : A → List ℕ) → ((x : A) → length (f x) ≡ n) → (xs : List A) → EveryLength n (map f xs)
map-lengths n f h [] = tt
map-lengths n f h (x ∷ xs) = (h x, map-lengths n f h xs)

append-lengths : (n : ℕ) (xs ys : List (List ℕ)) → EveryLength n xs → EveryLength n ys → EveryLength n (xs ++ ys)
append-lengths n [] ys h k = k
append-lengths n (x ∷ xs) ys h k = (h.0, append-lengths n xs ys h.1 k)

pub keep-lengths : (n : ℕ) (p : List ℕ → Bool) (xs : List (List ℕ)) → EveryLength n xs → EveryLength n (keep p xs)
keep-lengths n p [] h = tt
keep-lengths n p (x ∷ xs) h = go (p x) (keep-lengths n p xs h.1)
  where
    go : (b : Bool) → EveryLength n (keep p xs) → EveryLength n (if b then x ∷ keep p xs else keep p xs)
    go true r = (h.0, r)
    go false r = r

-- records of n bytes each, at most 256 of them
abbrev pub Sized : ℕ → List (List ℕ) → Type 0
Sized n rs = EveryLength n rs × (length rs ≤ 256)

none-sized : (n : ℕ) → Sized n []
none-sized n = (tt, omega arith)

choose : (n : ℕ) (b : Bool) (xs ys : List (List ℕ)) → Sized n xs → Sized n ys → Sized n (if b then xs else ys)
choose n true xs ys h k = h
choose n false xs ys h k = k

-- ---- notifications

pub bytes-length : (n x : ℕ) → length (bytes_of n x) ≡ n
unfolding bytes_of
bytes-length zero x = refl
bytes-length (suc n) x = omega (arith, length-append (bytes_of n (x / 256)) (x % 256 ∷ []), bytes-length n (x / 256))

pub notice-length : (p : Option ℕ) (m r s : ℕ) → length (notice_of p m r s) ≡ 20
unfolding notice_of
notice-length p m r s = omega (arith, bytes-length 16 m)

notification-length : (e : Streams) (r s : ℕ) → length (notification e r s) ≡ 20
notification-length e r s = notice-length (primary e r) (mark_of e r) r s

numbers-few : (p : Stream → Bool) (k : ℕ) (l : List Stream) → length (numbers p k l) ≤ length l
numbers-few p k [] = omega arith
numbers-few p k (x ∷ l) = go (p x) (numbers-few p (suc k) l)
  where
    go : (b : Bool) → length (numbers p (suc k) l) ≤ length l → length (if b then k ∷ numbers p (suc k) l else numbers p (suc k) l) ≤ suc (length l)
    go true h = omega arith
    go false h = omega arith

all-sized : (e : Streams) (r : ℕ) → length e.streams ≡ 32 → Sized 20 (notify_all e r)
unfolding notify_all
all-sized e r l = (
  map-lengths 20 (notification e r) (notification-length e r) (members e r),
  omega (arith, length-map (members e r) (notification e r), numbers-few (in_role r) 0 e.streams),
)

close-sized : (e : Streams) (s : ℕ) → length e.streams ≡ 32 → Sized 20 (close_records e s)
unfolding close_records
close-sized e s l = go (stream_at e s)
  where
    go : (x : Stream) → Sized 20 (records_on_close e s x)
    go closed = none-sized 20
    go unbound = none-sized 20
    go (bound r i) = choose 20 (is s (primary e r)) _ _ (all-sized (become e s closed) r (length-set e.streams s closed ∙ l)) (none-sized 20)

bind-sized : (e : Streams) (s : ℕ) (h : Head) → length e.streams ≡ 32 → Sized 20 (bind_records e (binds e s h) s h.role)
unfolding bind_records binds
bind-sized e s h l =
    choose 20 (same_pair e (binds e s h) h.role) _ _
    ((notification-length (binds e s h) h.role s, tt), omega arith)
    (all-sized (binds e s h) h.role (length-set e.streams s (bound h.role h.id) ∙ l))

-- ---- pairs

alone-count : (rows : List Row) (role : ℕ) (t : Tables) (us : List Update) → length (each_alone (judge rows role) t us).reasons ≡ length us
unfolding each_alone
alone-count rows role t [] = refl
alone-count rows role t (u ∷ us) = omega (arith, alone-count rows role (apply (judge rows role t u) u t) us)

pub reasons-count : (atomicity : ℕ) (rows : List Row) (role : ℕ) (t : Tables) (us : List Update)
    → length (batch atomicity (judge rows role) t us).reasons ≡ length us
unfolding batch all_or_none
reasons-count atomicity rows role t us = go (eqb atomicity 1) (failure (judge rows role) t us)
  where
    go : (b : Bool) (o : Option (ℕ × ℕ))
        → length (if b then unless_failed o t us (each_alone (judge rows role) t us) else each_alone (judge rows role) t us).reasons ≡ length us
    go true none = alone-count rows role t us
    go true (some f) = length-set (replicate (length us) 25) f.0 f.1 ∙ length-replicate (length us) 25
    go false o = alone-count rows role t us

pairs-sized : (s : State) (h : Head) (atomicity : ℕ) (us : List Update) → length us ≤ 64 → Sized 2 (map pair_of (batch_of s h atomicity us).reasons)
pairs-sized s h atomicity us few =
    let rs = (batch_of s h atomicity us).reasons in (
      map-lengths 2 pair_of (λ (r : ℕ). refl) rs,
      omega (arith, length-map rs pair_of, reasons-count atomicity s.control.rows h.role s.tables us),
    )

-- ---- entries

stored-lengths : (es : List (List ℕ)) → EveryStored es → EveryLength 220 es
stored-lengths [] h = tt
stored-lengths (e ∷ es) h = (h.0.size, stored-lengths es h.1)

-- what rows of a READ show of the entries
abbrev collected : (Row → Bool) → List Row → List (List ℕ) → List (List ℕ)
collected p rows es = concat (map (λ (row : Row). keep (in_table row.table) es) (keep p rows))

collected-lengths : (p : Row → Bool) (rows : List Row) (es : List (List ℕ)) → EveryLength 220 es → EveryLength 220 (collected p rows es)
collected-lengths p [] es h = tt
collected-lengths p (r ∷ rows) es h = go (p r) (collected-lengths p rows es h)
  where
    go : (b : Bool) → EveryLength 220 (collected p rows es)
        → EveryLength 220 (concat (map (λ (row : Row). keep (in_table row.table) es) (if b then r ∷ keep p rows else keep p rows)))
    go true k = append-lengths 220 (keep (in_table r.table) es) (collected p rows es) (keep-lengths 220 (in_table r.table) es h) k
    go false k = k

collected-few : (p : Row → Bool) (rows : List Row) (t : Tables) → Within rows t
    → length (collected p rows t.entries) ≤ sum (map (λ (r : Row). r.size) rows)
unfolding held
collected-few p [] t w = omega arith
collected-few p (r ∷ rows) t w = go (p r) (collected-few p rows t w.1)
  where
    mine : List (List ℕ)
    mine = keep (in_table r.table) t.entries

    go : (b : Bool) → length (collected p rows t.entries) ≤ sum (map (λ (r : Row). r.size) rows)
        → length (concat (map (λ (row : Row). keep (in_table row.table) t.entries) (if b then r ∷ keep p rows else keep p rows)))
        ≤ r.size + sum (map (λ (r : Row). r.size) rows)
    go true h = omega (arith, length-append mine (collected p rows t.entries), w.0)
    go false h = omega arith

pub shown-sized : (s : State) (q : Query) → Sound s → Sized 220 (shown s q)
unfolding shown
shown-sized s q ok = choose 220 (eqb q.only 1) _ _ (kept, fewer) (lengths, count)
  where
    all : List (List ℕ)
    all = gathered q.role q.table s.control.rows s.tables

    lengths : EveryLength 220 all
    lengths =
        collected-lengths (asked q.role q.table) s.control.rows s.tables.entries
        (stored-lengths s.tables.entries ok.tables.shortest)

    count : length all ≤ 256
    count =
        let few = collected-few (asked q.role q.table) s.control.rows s.tables ok.tables.within in
        omega (arith, few, sizes-fit s.control.rows ok.rows)

    kept : EveryLength 220 (keep (has_key (short_key q.key)) all)
    kept = keep-lengths 220 (has_key (short_key q.key)) all lengths

    fewer : length (keep (has_key (short_key q.key)) all) ≤ 256
    fewer = omega (arith, keep-fewer (has_key (short_key q.key)) all, count)

-- ---- answers

-- the size of the records that a command is answered with: notifications, pairs, entries
abbrev pub size_of : Command → ℕ
size_of too_short = 0
size_of malformed = 0
size_of (on_streams x) = 20
size_of (on_pipeline x) = 0
size_of (on_tables (WRITE h atomicity us)) = 2
size_of (on_tables (READ q)) = 220

pub answer-sized : (s : State) (c : Command) → Formed c → Sound s → Sized (size_of c) (answer s c).records
unfolding answer refusal open_stream close_stream arbitrate
answer-sized s too_short f ok = none-sized 0
answer-sized s malformed f ok = none-sized 0
answer-sized s (on_streams (OPEN n)) f ok = none-sized 20
answer-sized s (on_streams (CLOSE n)) f ok =
    choose 20 (eqb (close_reason s.control.streams n) 0) _ _ (close-sized s.control.streams n ok.streams.thirty_two) (none-sized 20)
answer-sized s (on_streams (ARBITRATE n h)) f ok =
    let r = arbitrate_reason s.control.device s.control.streams n h in
    choose 20 (eqb r 0) _ _ (bind-sized s.control.streams n h ok.streams.thirty_two)
    (choose 20 (between 5 9 r) _ _ (close-sized s.control.streams n ok.streams.thirty_two) (none-sized 20))
answer-sized s (on_pipeline x) f ok = none-sized 0
answer-sized s (on_tables (WRITE h atomicity us)) f ok = go (accepted s (on_tables (WRITE h atomicity us)))
  where
    rs : List ℕ
    rs = (batch_of s h atomicity us).reasons

    go : (b : Bool) → Sized 2 (if b then record { reason = head_reason rs; records = map pair_of rs }
        else plain (refusal s (on_tables (WRITE h atomicity us)))).records
    go true = pairs-sized s h atomicity us f.0
    go false = none-sized 2
answer-sized s (on_tables (READ q)) f ok = go (accepted s (on_tables (READ q)))
  where
    go : (b : Bool) → Sized 220 (if b then record { reason = 0; records = shown s q } else plain (refusal s (on_tables (READ q)))).records
    go true = shown-sized s q ok
    go false = none-sized 220

pub size_small : (c : Command) → size_of c ≤ 220
size_small too_short = omega arith
size_small malformed = omega arith
size_small (on_streams x) = omega arith
size_small (on_pipeline x) = omega arith
size_small (on_tables (WRITE h atomicity us)) = omega arith
size_small (on_tables (READ q)) = omega arith

answer-small : (s : State) (c : Command) → Formed c → Sound s → length (concat (answer s c).records) ≤ 56_320
answer-small s c f ok =
    let z = answer-sized s c f ok in
    le_trans (le_of_eq (concat-length (size_of c) (answer s c).records z.0)) (mul-le-mul (size_small c) z.1)

-- the count in an answer's head is that of its records
pub count-read : (a : Answer) (rest : List ℕ) → length a.records ≤ 256 → int 2 2 (answer_bytes a ++ rest) ≡ length a.records
unfolding answer_bytes bytes_of number_from
count-read a rest h = omega arith

-- a WRITE has a pair for each update where it is accepted, and none where it is refused
pub write-count : (s : State) (h : Head) (atomicity : ℕ) (us : List Update)
    → length (answer s (on_tables (WRITE h atomicity us))).records ≡ (if accepted s (on_tables (WRITE h atomicity us)) then length us else 0)
unfolding answer refusal
write-count s h atomicity us = go (accepted s (on_tables (WRITE h atomicity us)))
  where
    rs : List ℕ
    rs = (batch_of s h atomicity us).reasons

    go : (b : Bool) → length (if b then record { reason = head_reason rs; records = map pair_of rs }
        else plain (refusal s (on_tables (WRITE h atomicity us)))).records
        ≡ (if b then length us else 0)
    go true = length-map rs pair_of ∙ reasons-count atomicity s.control.rows h.role s.tables us
    go false = refl

pub reply-fits : (s : State) (c : Command) → Formed c → Sound s → length (reply s c).written ≤ 56_324
unfolding reply reply_of answer_bytes bytes_of
reply-fits s c f ok = go (eqb (answer s c).reason 2)
  where
    go : (b : Bool) → length (if b then [] else answer_bytes (answer s c)) ≤ 56_324
    go true = omega arith
    go false = omega (arith, answer-small s c f ok)

-- after every list of calls
pub answer-fits : AnswerFits
unfolding reply_after
answer-fits room device before c =
    reply-fits (run (fresh device) (commands_of room before)) (command_of room c) (call-formed room c) (sound room device before)
