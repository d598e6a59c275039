-- Right because the line is written to the bytes lent for it, which are as many as the longest line has. Assumes nothing.
use Prim.Native.Nat.{ℕ, ◌+◌, ◌-◌, ◌≤◌}
use native.Mathlib.Omega.{arith}
use mathlib.Core.Path.{◌≡◌, ap, ◌∙◌}
use mathlib.Core.List.{List}
use lib.ListN.{length, take, drop}
use borrow.Rule.Slice.PartMut.{put_mid}
use Rattle.buffers.specs.Splice.{splice}
use Rattle.buffers.proofs.Splice.{part-copied, length-window}
use Rattle.transcript.specs.Line.{record_size, line_in}
use Rattle.transcript.proofs.Fitting.{line_in-length}
use Rattle.session.specs.Session.{line_of_call}
use Rattle.session.proofs.print.Goals as goal

module _ (ordinal : ℕ) (frame answer out : List ℕ) (end size count : ℕ) (part' : List ℕ)
    (room : end + 112_980 ≤ length out) (is : size ≡ record_size frame) where
  -- the part that is lent for the line
  abbrev lent : ℕ
  lent = end + 112_980 - end

  lent_is : lent ≡ 112_980
  lent_is = omega arith

  part_length : length (take lent (drop end out)) ≡ 112_980
  part_length = length-window end lent out (omega (arith, room)) ∙ lent_is

  abbrev line : List ℕ
  line = line_of_call ordinal frame answer

  -- the line in so much room, its records being of this size
  abbrev line-in : ℕ → ℕ → List ℕ
  line-in space n = line_in space ordinal n answer

  line-is : line-in (length (take lent (drop end out))) size ≡ line
  line-is = ap (λ (n : ℕ). line-in n size) part_length ∙ ap (line-in 112_980) is

  line-fits : length line ≤ 112_980
  line-fits = line_in-length 112_980 ordinal (record_size frame) answer

  line-length : count ≡ length (line-in (length (take lent (drop end out))) size) → count ≡ length line
  line-length e = e ∙ ap length line-is

  written : part' ≡ splice (take lent (drop end out)) 0 (line-in (length (take lent (drop end out))) size)
      → put_mid end lent out part' ≡ splice out end line
  written e =
      part-copied out part' line end lent (e ∙ ap (splice (take lent (drop end out)) 0) line-is) (omega (arith, line-fits)) (omega (arith, room))

pub overflow_add-result : goal.overflow_add-result
overflow_add-result c =
    let a = c.args in
    let l = line-length a.ordinal a.frame.now a.answer.now a.out.now a.end c.record_size-size.result c.write_line.result c.write_line.new.out
    c.requires c.record_size-size.ensures c.write_line.ensures.count in
    let f = line-fits a.ordinal a.frame.now a.answer.now a.out.now a.end c.record_size-size.result c.write_line.result c.write_line.new.out
    c.requires c.record_size-size.ensures in
    record { fits = omega (arith, l, f, c.requires) }

pub returns-clause-next : goal.returns-clause-next
returns-clause-next c =
    let a = c.args in
    ap (λ (n : ℕ). a.end + n)
    (line-length a.ordinal a.frame.now a.answer.now a.out.now a.end c.record_size-size.result c.write_line.result c.write_line.new.out
    c.requires c.record_size-size.ensures c.write_line.ensures.count)

pub returns-clause-bytes : goal.returns-clause-bytes
returns-clause-bytes c =
    let a = c.args in
    written a.ordinal a.frame.now a.answer.now a.out.now a.end c.record_size-size.result c.write_line.result c.write_line.new.out
    c.requires c.record_size-size.ensures c.write_line.ensures.bytes
