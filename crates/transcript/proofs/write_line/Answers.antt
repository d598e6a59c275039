-- Right because the line is written exactly where it fits, and each part of it comes after the one before. Assumes nothing.
use Rattle.std.proofs.Common.{◌≡◌, ℕ, ◌+◌, ◌*◌, ◌-◌, ◌≤◌, Bool, true, false, ◌&&◌, leb, List, [], ◌∷◌, ◌++◌, length, take, drop}
use Rattle.std.proofs.Common.{sym, ap, ◌∙◌, rules, arith, length-append}
use Rattle.std.specs.Int.{w16, from_be_bytes}
use native.Mathlib.Nat.{zero-add}
use lib.ListN.{length-drop}
use Rattle.buffers.specs.Splice.{splice}
use Rattle.buffers.proofs.Splice.{splice-none}
use Rattle.rules.specs.Bytes.{byte, int, parts}
use Rattle.rules.proofs.Formed.{parts-count}
use Rattle.rules.proofs.Lists.{rest_all}
use Rattle.transcript.specs.Line.{decimal, field, newline, records_hex, printed, fits, line_in}
use Rattle.transcript.proofs.Written.{adds-then, room-after, room-front}
use Rattle.transcript.proofs.Input.{read_two}
use Rattle.transcript.proofs.Fitting.{no_head, tests-fit, printed-split, line_in-whole, line_in-none, line_in-length}
use Rattle.transcript.proofs.write_line.Goals as goal

-- nothing is written of an answer that does not fit
unwritten : (ordinal size : ℕ) (answer out : List ℕ) → fits (length out) size answer ≡ false
    → out ≡ splice out 0 (line_in (length out) ordinal size answer)
unwritten ordinal size answer out h = splice-none out 0 ∙ ap (splice out 0) (sym (line_in-none (length out) ordinal size answer h))

-- what the code has: the count, the bytes after the head, and its tests
module _ (ordinal size n : ℕ) (answer out : List ℕ) (t : Bool) (head : 4 ≤ length answer)
    (count : n ≡ from_be_bytes w16 (byte 2 answer ∷ byte 3 answer ∷ [])) where
  abbrev bytes : List ℕ
  bytes = take (length answer - 4) (drop 4 answer)

  abbrev numbers : List ℕ
  numbers = field ordinal ++ (field (byte 0 answer) ++ (field (byte 1 answer) ++ decimal n))

  abbrev after : List ℕ
  after = records_hex (parts n size bytes) ++ (newline ∷ [])

  abbrev line : List ℕ
  line = line_in (length out) ordinal size answer

  is : n ≡ int 2 2 answer
  is = read_two 2 n answer head count

  module _ (tests : t ≡ (leb size 220 && leb (size * n) (length bytes) && leb (84 + (1 + 2 * size) * n) (length out))) where
    fit : t ≡ fits (length out) size answer
    fit =
        let l : length bytes ≡ length answer - 4 = ap length (rest_all 4 answer) ∙ length-drop 4 answer in
        tests ∙ ap (λ (k : ℕ). leb size 220 && leb (size * n) k && leb (84 + (1 + 2 * size) * n) (length out)) l
        ∙ tests-fit (length out) size answer n is head

    split : t ≡ true → line ≡ numbers ++ after
    split h =
        let print : ℕ → List ℕ → List ℕ = λ k l. printed ordinal (byte 0 answer) (byte 1 answer) (parts k size l) in
        line_in-whole (length out) ordinal size answer (sym fit ∙ h)
        ∙ ap (λ (k : ℕ). print k (drop 4 answer)) (sym is) ∙ ap (print n) (sym (rest_all 4 answer))
        ∙ printed-split ordinal (byte 0 answer) (byte 1 answer) n _ (parts-count n size bytes)

    room : t ≡ true → 0 + length (numbers ++ after) ≤ length out
    room h = omega (arith, line_in-length (length out) ordinal size answer, ap length (split h))

    room-numbers : t ≡ true → 0 + length numbers ≤ length out
    room-numbers h = omega (arith, room h, length-append numbers after)

pub returns-in_default-clause-count : goal.returns-in_default-clause-count
returns-in_default-clause-count c =
    let a = c.args in
    let h = no_head (length a.out.now) a.size a.answer.now c.in_default.len_below in
    ap length (sym (line_in-none (length a.out.now) a.ordinal a.size a.answer.now h))

pub returns-in_default-clause-bytes : goal.returns-in_default-clause-bytes
returns-in_default-clause-bytes c =
    let a = c.args in
    unwritten a.ordinal a.size a.answer.now a.out.now (no_head (length a.out.now) a.size a.answer.now c.in_default.len_below)

pub returns-then-not-line_fits-clause-count : goal.returns-then-not-line_fits-clause-count
returns-then-not-line_fits-clause-count c =
    let a = c.args in
    let f = fit a.ordinal a.size _ a.answer.now a.out.now _ c.in-len4-up.len_at_least c.from_be_bytes-count.ensures c.line_fits.ensures in
    ap length (sym (line_in-none (length a.out.now) a.ordinal a.size a.answer.now (sym f ∙ c.if-not-line_fits.true)))

pub returns-then-not-line_fits-clause-bytes : goal.returns-then-not-line_fits-clause-bytes
returns-then-not-line_fits-clause-bytes c =
    let a = c.args in
    let f = fit a.ordinal a.size _ a.answer.now a.out.now _ c.in-len4-up.len_at_least c.from_be_bytes-count.ensures c.line_fits.ensures in
    unwritten a.ordinal a.size a.answer.now a.out.now (sym f ∙ c.if-not-line_fits.true)

pub numbers-requires : goal.numbers-requires
numbers-requires c =
    let a = c.args in
    room-numbers a.ordinal a.size _ a.answer.now a.out.now _ c.in-len4-up.len_at_least c.from_be_bytes-count.ensures c.line_fits.ensures
    c.if-not-line_fits.false

pub records-requires-clause-room : goal.records-requires-clause-room
records-requires-clause-room c =
    let a = c.args in
    let r = room a.ordinal a.size _ a.answer.now a.out.now _ c.in-len4-up.len_at_least c.from_be_bytes-count.ensures c.line_fits.ensures
    c.if-not-line_fits.false in
    room-front c.numbers.new.self _ (newline ∷ []) (room-after c.numbers.ensures _ r)

pub push-requires : goal.push-requires
push-requires c =
    let a = c.args in
    let r = room a.ordinal a.size _ a.answer.now a.out.now _ c.in-len4-up.len_at_least c.from_be_bytes-count.ensures c.line_fits.ensures
    c.if-not-line_fits.false in
    room-after c.records.ensures _ (room-after c.numbers.ensures _ r)

pub returns-clause-count : goal.returns-clause-count
returns-clause-count c =
    let a = c.args in
    let w = adds-then c.numbers.ensures (adds-then c.records.ensures c.push.ensures) in
    let s = split a.ordinal a.size _ a.answer.now a.out.now _ c.in-len4-up.len_at_least c.from_be_bytes-count.ensures c.line_fits.ensures
    c.if-not-line_fits.false in
    w.place ∙ zero-add _ ∙ ap length (sym s)

pub returns-clause-bytes : goal.returns-clause-bytes
returns-clause-bytes c =
    let a = c.args in
    let w = adds-then c.numbers.ensures (adds-then c.records.ensures c.push.ensures) in
    let s = split a.ordinal a.size _ a.answer.now a.out.now _ c.in-len4-up.len_at_least c.from_be_bytes-count.ensures c.line_fits.ensures
    c.if-not-line_fits.false in
    let b : c.push.new.self.out.now ≡ splice a.out.now 0 (line_in (length a.out.now) a.ordinal a.size a.answer.now) =
    w.bytes ∙ ap (splice a.out.now 0) (sym s) in
    search rules
