-- Right because each turn writes the record of the stream, if it is of the role, after those before it. Assumes nothing.
use Prim.Native.Nat.{ℕ, ◌*◌, ◌-◌}
use native.Mathlib.Omega.{arith}
use mathlib.Core.Path.{◌≡◌, sym, ap, ◌∙◌}
use mathlib.Core.Bool.{true, false}
use mathlib.Core.List.{List, map}
use lib.ListN.{length}
use borrow.Author.Rules.{rules}
use Rattle.rules.specs.Bytes.{concat}
use Rattle.rules.specs.Streams.{in_role, members, stream_at, notify_all}
use Rattle.rules.proofs.Sizes.{notice-length}
use Rattle.buffers.specs.Splice.{splice}
use Rattle.buffers.proofs.Splice.{part-copied}
use Rattle.buffers.proofs.Written.{written_none, written_next, written_same, written-length, written_all}
use Rattle.election.specs.Meaning.{id_of}
use Rattle.leadership.specs.Meaning.{primary_of, notice_by}
use Rattle.leadership.proofs.Notices.{notices-are}
use Rattle.arbitration.specs.Meaning.{streams_of}
use Rattle.arbitration.proofs.Places.{sized}
use Rattle.arbitration.proofs.Passing.{rest-passes, rest-other, rest-none}
use Rattle.arbitration.proofs.Streams.write_role.Goals.{then-in_role, else-in_role}
use Rattle.arbitration.proofs.Streams.write_role.Goals as goal

pub loop-stream-init : goal.loop-stream-init
loop-stream-init c =
    let a = c.args in
    (omega arith, written_none 20 (map (notice_by c.leadership-leadership.result) (members (streams_of a.self.now) a.role)) a.out.now)

pub loop-stream-preserved : goal.loop-stream-preserved
loop-stream-preserved c =
    let a = c.args in
    let e = streams_of a.self.now in
    let n : length a.self.now.streams ≡ 32 = search rules in
    let p = in_role a.role in
    let k = c.loop-stream.stream in
    let l = c.leadership-leadership.result in
    let f = notice_by l in
    let i = c.loop-stream.invariant in
    let s = written-length i.1 (omega arith) in
    elim c.if-in_role.branch [
      | then-in_role w ↦
          let o = c.loop-stream.out in
          let t : p (stream_at e k) ≡ true = search rules in
          let z : length (f k) ≡ 20 = notice-length (primary_of l.primary) (id_of l.mark) l.role k in
          let v = part-copied o w.write_notification.new.out (f k) (20 * c.loop-stream.count) (length o - 20 * c.loop-stream.count)
          w.write_notification.ensures (omega arith) (omega arith) in
          let q = ap (map f) (rest-passes p e (sized a.self.now n) k (omega arith) t) in
          (omega arith, written_next i.1 q z (omega arith) (w.out-is ∙ v) w.count-is)
      | else-in_role w ↦
          let t : p (stream_at e k) ≡ false = search rules in
          (omega arith, written_same i.1 (ap (map f) (rest-other p e (sized a.self.now n) k (omega arith) t)) w.out-is w.count-is)
    ]

pub returns : goal.returns
returns c =
    let a = c.args in
    let e = streams_of a.self.now in
    let n : length a.self.now.streams ≡ 32 = search rules in
    let l = c.leadership-leadership in
    let f = notice_by l.result in
    let none = rest-none (in_role a.role) e (sized a.self.now n) c.loop-stream.stream (omega arith) in
    let w = written_all c.loop-stream.invariant.1 (ap (map f) none) in
    let q = notices-are l.result e l.ensures.shown (ap (members e) (sym l.ensures.role)) ∙ ap (notify_all e) l.ensures.role in
    record {
      count = w.0 ∙ ap length q;
      records = w.1 ∙ ap (λ (r : List (List ℕ)). splice a.out.now 0 (concat r)) q;
    }
