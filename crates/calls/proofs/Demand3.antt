-- Demand 3, for any layout: each call of a list finds a memory that represents the state that the rules make of the calls before it,
-- since every call leaves what the rules leave; the rules agree with looking back. Assumes nothing.
use Rattle.std.specs.Prelude.{if◌then◌else◌}
use Prim.Native.Nat.{ℕ, suc, ◌+◌, ◌*◌, ◌≤◌, ◌<◌}
use native.Mathlib.Omega.{arith}
use mathlib.Core.Path.{◌≡◌, refl, sym, ap, ap₂, ◌∙◌, subst}
use mathlib.Core.Bool.{Bool, true, false, ◌&&◌, false≢true}
use mathlib.Core.Logic.{◌⊎◌, ◌↔◌}
use mathlib.Core.List.{List, [], ◌∷◌, ◌++◌}
use lib.ListN.{length, take, drop, length-append, length-drop}
use lib.Seq.{take-append-le, drop-append-le}
use Rattle.rules.specs.Bytes.{Pointwise, byte, int, bytes_of, concat}
use Rattle.rules.specs.Reason.{code_of, pairs}
use Rattle.rules.specs.Frame.{Head, Update, Query, Command, too_short, WRITE, READ, on_tables}
use Rattle.rules.specs.Answer.{Reply, answer_bytes, reply_of}
use Rattle.rules.specs.Call.{Call, State, fresh, accepted, refusal, plain, answer, command_of, next, reply, run}
use Rattle.rules.specs.LookBack.{History, present, state_seen, took_effect, pairs_seen, some_fails, read_seen, answer_seen, reply_seen}
use Rattle.rules.specs.Agreement.{commands_of, reply_after, history_of, pair_at}
use Rattle.rules.specs.Full.{reply_after24}
use Rattle.rules.specs.Sound.{Sound, EveryStored}
use Rattle.rules.proofs.Formed.{call-formed}
use Rattle.rules.proofs.Sound.{fresh-agent, next-sound, sound}
use Rattle.rules.proofs.Sizes.{answer-sized, count-read, write-count}
use Rattle.rules.proofs.Replies.{written-whole}
use Rattle.rules.proofs.PairsAndEffects.{pairs-length}
use Rattle.rules.proofs.LookBack.{fresh-shows, agreement}
use Rattle.rules.proofs.Full.{never-full}
use Rattle.rules.proofs.Deletes.{key-alone}
use Rattle.rules.proofs.Primary.{authority}
use Rattle.rules.proofs.Presence.{presence}
use Rattle.calls.specs.Contract.{Memory, Input, Result, call_of, requested, Layout, Represents, Fresh, FreeBytes, Correct, Contract}
use Rattle.calls.specs.Claim.{Step, Trace, calls_of, AnsweredAlike, AskAlike, Place, ListClaim, Demand3}

-- ---- the state that a list reaches

-- a memory that calls leave, the state that it represents, and the calls ws that come then
pub record Reached {A : Type 0} (L : Layout A) (room : ℕ) (s : State) (ws : List (Step A)) : Type 0 where
  pub memory : Memory A
  pub sound : Sound s
  pub long : length memory.store ≡ room
  pub state : Represents L memory s
  pub trace : Trace L memory ws

-- one call: what it did, and where it leads
module _ {A : Type 0} (L : Layout A) {room : ℕ} {s : State} {w : Step A} {ws : List (Step A)} (a : Reached L room s (w ∷ ws)) where
  abbrev command : Command
  command = command_of room (call_of w.input)

  correct : Correct L s command a.memory w.input.buffer w.result
  unfolding Trace
  correct = rw (← a.long) (a.trace.0 s a.sound a.state)

  pub replied : (w.result.reason ≡ (reply s command).returned)
      × (w.result.answer ≡ (reply s command).written ++ drop (length (reply s command).written) w.input.buffer)
  replied = (correct.returned, correct.filled)

  pub onward : Reached L room (next s command) ws
  unfolding Trace
  onward = record {
    memory = w.result.memory;
    sound = next-sound s command (call-formed room (call_of w.input)) a.sound;
    long = correct.room ∙ a.long;
    state = correct.state;
    trace = a.trace.1;
  }

module _ {A : Type 0} (L : Layout A) where
  reaches : (room : ℕ) (s : State) (before ws : List (Step A)) → Reached L room s (before ++ ws)
      → Reached L room (run s (commands_of room (calls_of before))) ws
  unfolding run
  reaches room s [] ws a = a
  reaches room s (b ∷ before) ws a = reaches room (next s (command_of room (call_of b.input))) before ws (onward L a)

  -- a list from a fresh agent
  pub starts : (device : ℕ) (start : Memory A) (ws : List (Step A)) → Fresh L device start.agent → Trace L start ws
      → Reached L (length start.store) (fresh device) ws
  starts device start ws f l = record {
    memory = start;
    sound = fresh-agent device;
    long = refl;
    state = f start.store;
    trace = l;
  }

-- ---- one call of a list

-- a pair is found in what is written, whatever follows it
pair-in : (i : ℕ) (b rest : List ℕ) → 4 + 2 * i + 2 ≤ length b → pair_at i (b ++ rest) ≡ pair_at i b
unfolding pair_at
pair-in i b rest h =
    ap (take 2) (drop-append-le (4 + 2 * i) b rest (omega arith))
    ∙ take-append-le 2 (drop (4 + 2 * i) b) rest (omega (arith, length-drop (4 + 2 * i) b))

-- an accepted READ's bytes, and how long an accepted WRITE's are
read-bytes : (p : History) (q : Query) → accepted (state_seen p) (on_tables (READ q)) ≡ true
    → (reply_seen p (on_tables (READ q))).written
    ≡ (let found = read_seen p.control.rows q (present p.effects) in 0 ∷ 0 ∷ bytes_of 2 (length found) ++ concat found)
unfolding reply_seen reply_of answer_seen answer_bytes code_of pairs
read-bytes p q e =
    ap (λ (b : Bool). (reply_of (if b then record { reason = 0; records = read_seen p.control.rows q (present p.effects) } else
    plain (refusal (state_seen p) (on_tables (READ q))))).written) e

head-length : (r c n : ℕ) (l : List ℕ) → length (r ∷ c ∷ bytes_of 2 n ++ l) ≡ 4 + length l
unfolding bytes_of
head-length r c n l = omega arith

write-length : (p : History) (h : Head) (atomicity : ℕ) (us : List Update) → accepted (state_seen p) (on_tables (WRITE h atomicity us)) ≡ true
    → length (reply_seen p (on_tables (WRITE h atomicity us))).written ≡ 4 + 2 * length us
unfolding reply_seen reply_of answer_seen answer_bytes
write-length p h atomicity us e = rw e (go (some_fails p h.role us))
  where
    rs : List (List ℕ)
    rs = pairs_seen p h.role atomicity us

    size : (r : ℕ) → length (r ∷ code_of r ∷ bytes_of 2 (length rs) ++ concat rs) ≡ 4 + 2 * length us
    size r = head-length r (code_of r) (length rs) (concat rs) ∙ ap (λ (n : ℕ). 4 + n) (pairs-length h.role p atomicity us)

    go : (b : Bool) → length (reply_of (record { reason = if b then 23 else 0; records = rs })).written ≡ 4 + 2 * length us
    go true = size 23
    go false = size 0

module _ {A : Type 0} (L : Layout A) (device : ℕ) (start : Memory A) (f : Fresh L device start.agent) (before : List (Step A)) (w : Step A) where
  abbrev room : ℕ
  room = length start.store

  abbrev calls : List Call
  calls = calls_of before

  abbrev p : History
  p = history_of room device calls

  abbrev c : Command
  c = requested start w.input

  -- the agent that the rules make of the calls before
  abbrev s : State
  s = run (fresh device) (commands_of room calls)

  agrees : reply s c ≡ reply_seen p c
  unfolding reply_after
  agrees = (agreement room device calls (call_of w.input)).replies

  module _ (after : List (Step A)) (l : Trace L start (before ++ w ∷ after)) where
    here : Reached L room s (w ∷ after)
    here = reaches L room (fresh device) before (w ∷ after) (starts L device start (before ++ w ∷ after) f l)

    is-returned : w.result.reason ≡ (reply_seen p c).returned
    is-returned = (replied L here).0 ∙ ap (λ (r : Reply). r.returned) agrees

    is-filled : w.result.answer ≡ (reply_seen p c).written ++ drop (length (reply_seen p c).written) w.input.buffer
    is-filled = (replied L here).1 ∙ ap (λ (r : Reply). r.written ++ drop (length r.written) w.input.buffer) agrees

    accepts : ((w.result.reason ≡ 0) ⊎ (w.result.reason ≡ 23)) ↔ (accepted (state_seen p) c ≡ true)
    unfolding reply_after
    accepts =
        subst (λ (r : ℕ). ((r ≡ 0) ⊎ (r ≡ 23)) ↔ (accepted (state_seen p) c ≡ true)) (sym (replied L here).0)
        (agreement room device calls (call_of w.input)).acceptance

    is_read : (q : Query) → c ≡ on_tables (READ q) → accepted (state_seen p) c ≡ true →
        let found = read_seen p.control.rows q (present p.effects) in
        w.result.answer ≡ (0 ∷ 0 ∷ bytes_of 2 (length found) ++ concat found) ++ drop (4 + length (concat found)) w.input.buffer
    is_read q e a =
        let found : List (List ℕ) = read_seen p.control.rows q (present p.effects) in
        let b : (reply_seen p c).written ≡ 0 ∷ 0 ∷ bytes_of 2 (length found) ++ concat found =
        ap (λ (x : Command). (reply_seen p x).written) e ∙ read-bytes p q (subst (λ (x : Command). accepted (state_seen p) x ≡ true) e a) in
        is-filled ∙ ap (λ (x : List ℕ). x ++ drop (length x) w.input.buffer) b
        ∙ ap (λ (n : ℕ). (0 ∷ 0 ∷ bytes_of 2 (length found) ++ concat found) ++ drop n w.input.buffer)
        (head-length 0 0 (length found) (concat found))

    -- the count in the answer's head
    counts : (c ≡ too_short → ⊥) → int 2 2 w.result.answer ≡ length (answer s c).records
    counts n =
        ap (int 2 2) ((replied L here).1 ∙ ap (λ (b : List ℕ). b ++ drop (length b) w.input.buffer) (written-whole s c n))
        ∙ count-read (answer s c) _ (answer-sized s c (call-formed room (call_of w.input)) (sound room device calls)).1

    -- a pair for each update where a WRITE is accepted, and none where it is refused
    module _ (h : Head) (atomicity : ℕ) (us : List Update) (e : c ≡ on_tables (WRITE h atomicity us)) where
      number : int 2 2 w.result.answer ≡ (if accepted (state_seen p) c then length us else 0)
      unfolding history_of
      number =
          counts (write c e) ∙ ap (λ (x : Command). length (answer s x).records) e ∙ write-count s h atomicity us
          ∙ ap₂ (λ (t : State) (x : Command). if accepted t x then length us else 0) (fresh-shows device (commands_of room calls)) (sym e)
        where
          write : (x : Command) → x ≡ on_tables (WRITE h atomicity us) → x ≡ too_short → ⊥
          write x q z = let w : ◌≡◌ {A = ℕ} 0 1 = cc in omega arith

      -- the i-th pair of the answer is that of the rules
      paired : (i : ℕ) → i < length us → accepted (state_seen p) c ≡ true → pair_at i w.result.answer ≡ pair_at i (reply s c).written
      paired i l a =
          let n : length (reply_seen p c).written ≡ 4 + 2 * length us =
          ap (λ (x : Command). length (reply_seen p x).written) e
          ∙ write-length p h atomicity us (subst (λ (x : Command). accepted (state_seen p) x ≡ true) e a) in
          ap (pair_at i) is-filled
          ∙ pair-in i (reply_seen p c).written _ (omega arith)
          ∙ ap (λ (r : Reply). pair_at i r.written) (sym agrees)

    takes-effect : (h : Head) (atomicity : ℕ) (earlier : List Update) (u : Update) (later : List Update)
        → c ≡ on_tables (WRITE h atomicity (earlier ++ u ∷ later))
        → ((length earlier < int 2 2 w.result.answer) × (pair_at (length earlier) w.result.answer ≡ 0 ∷ 0 ∷ []))
        ↔ (accepted (state_seen p) c && took_effect p h.role atomicity earlier u later ≡ true)
    unfolding reply_after history_of
    takes-effect h atomicity earlier u later e = go (accepted (state_seen p) c) refl
      where
        us : List Update
        us = earlier ++ u ∷ later

        T : Bool
        T = took_effect p h.role atomicity earlier u later

        go : (b : Bool) → accepted (state_seen p) c ≡ b
            → ((length earlier < int 2 2 w.result.answer) × (pair_at (length earlier) w.result.answer ≡ 0 ∷ 0 ∷ [])) ↔ (b && T ≡ true)
        go true a =
            let k : length us ≡ length earlier + suc (length later) = length-append earlier (u ∷ later) in
            let m : int 2 2 w.result.answer ≡ length us = number h atomicity us e ∙ (rw a) in
            let b = paired h atomicity us e (length earlier) (omega arith) a in
            let i = (agreement room device calls (call_of w.input)).updates h atomicity earlier u later e a in
            (λ z. i.0 (sym b ∙ z.1), λ t. (omega arith, b ∙ i.1 t))
        go false a =
            let m : int 2 2 w.result.answer ≡ 0 = number h atomicity us e ∙ (rw a) in
            (λ z. absurd (let l = z.0 in omega (arith, l)), λ t. absurd (false≢true t))

    -- beside the rules that have 24
    as-with-24 :
        let old = reply_after24 room device calls (call_of w.input) in
        (w.result.reason ≡ old.returned) × (w.result.answer ≡ old.written ++ drop (length old.written) w.input.buffer)
    unfolding reply_after
    as-with-24 =
        let same = sym (never-full room device calls (call_of w.input)).replies in (
          (replied L here).0 ∙ ap (λ (r : Reply). r.returned) same,
          (replied L here).1 ∙ ap (λ (r : Reply). r.written ++ drop (length r.written) w.input.buffer) same,
        )

    never-returned : w.result.reason ≡ 24 → ⊥
    unfolding reply_after
    never-returned e = (never-full room device calls (call_of w.input)).no-head (sym (replied L here).0 ∙ e)

    never-paired : (h : Head) (atomicity : ℕ) (us : List Update) → c ≡ on_tables (WRITE h atomicity us)
        → (i : ℕ) → i < int 2 2 w.result.answer → byte 0 (pair_at i w.result.answer) ≡ 24 → ⊥
    unfolding reply_after history_of
    never-paired h atomicity us e i l q = go (accepted (state_seen p) c) refl
      where
        go : (b : Bool) → accepted (state_seen p) c ≡ b → ⊥
        go true a =
            let m : int 2 2 w.result.answer ≡ length us = number h atomicity us e ∙ (rw a) in
            let few : i < length us = omega arith in
            let ruled : accepted s c ≡ true = ap (λ (t : State). accepted t c) (fresh-shows device (commands_of room calls)) ∙ a in
            (never-full room device calls (call_of w.input)).no-pair h atomicity us e ruled i few
            (ap (byte 0) (sym (paired h atomicity us e i few a)) ∙ q)
        go false a = let m : int 2 2 w.result.answer ≡ 0 = number h atomicity us e ∙ (rw a) in omega arith

  -- a READ in its stead and after it
  reads-alike : (q : Query) → reply s (on_tables (READ q)) ≡ reply (next s c) (on_tables (READ q)) → (x y : Step A)
      → requested start x.input ≡ on_tables (READ q) → y.input ≡ x.input
      → Trace L start (before ++ x ∷ []) → Trace L start (before ++ w ∷ y ∷ []) → AnsweredAlike x y
  reads-alike q same x y e i lx ly =
      let ax = replied L (reaches L room (fresh device) before (x ∷ []) (starts L device start (before ++ x ∷ []) f lx)) in
      let ay = replied L (onward L (reaches L room (fresh device) before (w ∷ y ∷ []) (starts L device start (before ++ w ∷ y ∷ []) f ly))) in
      let ey : command_of room (call_of y.input) ≡ on_tables (READ q) = ap (λ (j : Input). command_of room (call_of j)) i ∙ e in
      let r : reply s (command_of room (call_of x.input)) ≡ reply (next s c) (command_of room (call_of y.input)) =
      ap (reply s) e ∙ same ∙ ap (reply (next s c)) (sym ey) in (
        ax.0 ∙ ap (λ (t : Reply). t.returned) r ∙ sym ay.0,
        ax.1 ∙ ap₂ (λ (t : Reply) (j : Input). t.written ++ drop (length t.written) j.buffer) r (sym i) ∙ sym ay.1,
      )

  -- after a batch that was rolled back
  rolls-back : (after : List (Step A)) → Trace L start (before ++ w ∷ after) → (h : Head) (us : List Update) → c ≡ on_tables (WRITE h 1 us)
      → w.result.reason ≡ 23 → (q : Query) → reply s (on_tables (READ q)) ≡ reply (next s c) (on_tables (READ q))
  unfolding reply_after
  rolls-back after l h us e r q =
      (agreement room device calls (call_of w.input)).rolled-back h us e (sym (replied L (here after l)).0 ∙ r) q

-- ---- the claim

module _ {A : Type 0} (L : Layout A) where
  all-lists : (device : ℕ) (start : Memory A) → Fresh L device start.agent
      → (ws : List (Step A)) → Trace L start ws → ListClaim L device start ws
  unfolding state_seen history_of
  all-lists device start f ws l = record {
    returned = λ p. is-returned L device start f p.before p.call p.after (there p);
    filled = λ p. is-filled L device start f p.before p.call p.after (there p);
    acceptance = λ p. accepts L device start f p.before p.call p.after (there p);
    reads = λ p. is_read L device start f p.before p.call p.after (there p);
    described = λ p. presence room' device (calls_of p.before);
    shortest = λ p. are-shortest (calls_of p.before);
    updates = λ p. takes-effect L device start f p.before p.call p.after (there p);
    authority = λ p. (authority room' device (calls_of p.before) (call_of p.call.input)).given;
    unchanged = λ p n q. reads-alike L device start f p.before p.call q
        ((authority room' device (calls_of p.before) (call_of p.call.input)).unchanged n q);
    rolled-back = λ p h us e r q. reads-alike L device start f p.before p.call q
        (rolls-back L device start f p.before p.call p.after (there p) h us e r q);
    full-store = λ p. as-with-24 L device start f p.before p.call p.after (there p);
    not-returned = λ p. never-returned L device start f p.before p.call p.after (there p);
    not-paired = λ p. never-paired L device start f p.before p.call p.after (there p);
  }
    where
      room' : ℕ
      room' = length start.store

      there : (p : Place ws) → Trace L start (p.before ++ p.call ∷ p.after)
      there p = subst (Trace L start) p.whole l

      are-shortest : (calls : List Call) → EveryStored (present (history_of room' device calls).effects)
      are-shortest calls =
          subst (λ (s : State). EveryStored s.tables.entries) (fresh-shows device (commands_of room' calls))
          (sound room' device calls).tables.shortest

  -- two lists from one state, with stores of one length
  all_alike : (start : Memory A) (s : State) (ws xs : List (Step A)) → Reached L (length start.store) s ws
      → Reached L (length start.store) s xs → Pointwise (AskAlike start) ws xs → Pointwise AnsweredAlike ws xs
  all_alike start s [] [] a b h = tt
  all_alike start s [] (x ∷ xs) a b h = absurd h
  all_alike start s (w ∷ ws) [] a b h = absurd h
  all_alike start s (w ∷ ws) (x ∷ xs) a b h =
      let c : Command = requested start w.input in
      let d : Command = requested start x.input in
      let r : reply s c ≡ reply s d = key-alone.answers s c d h.0.1 in
      let more = subst (λ (t : State). Reached L (length start.store) t xs) (sym (key-alone.states s c d h.0.1)) (onward L b) in (
        (
          (replied L a).0 ∙ ap (λ (t : Reply). t.returned) r ∙ sym (replied L b).0,
          (replied L a).1
              ∙ ap₂ (λ (t : Reply) (l : List ℕ). t.written ++ drop (length t.written) l) r h.0.0
              ∙ sym (replied L b).1,
        ),
        all_alike start (next s c) ws xs (onward L a) more h.1,
      )

  -- two memories of one state, with stores of one length
  both : (m n : Memory A) (i : Input) (x y : Result A) (s : State) → Sound s → Represents L m s → Represents L n s
      → length m.store ≡ length n.store → Contract L m i x → Contract L n i y
      → (x.reason ≡ y.reason) × (x.answer ≡ y.answer)
      × Represents L x.memory (next s (requested m i)) × Represents L y.memory (next s (requested m i))
  both m n i x y s k em en l mx my =
      let ox = mx s k em in
      let oy : Correct L s (requested m i) n i.buffer y = rw l (my s k en) in
      (ox.returned ∙ sym oy.returned, ox.filled ∙ sym oy.filled, ox.state, oy.state)

  -- All that is asked of a layout, and for `free` alone: the record and the bytes used say what a memory represents.
  pub demand-3-of : FreeBytes L → Demand3 L
  demand-3-of f = record {
    lists = all-lists;
    deletes = λ device start f ws xs l k. all_alike start (fresh device) ws xs (starts L device start ws f l) (starts L device start xs f k);
    free = λ m n i x y s k e a l u. both m n i x y s k e
        (record { control = ap L.control (sym a) ∙ e.control; tables = f m n s.tables a u e.tables }) l;
  }
