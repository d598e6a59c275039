-- Right because each turn writes the record of the stream, if it is of the role, after those before it. Assumes nothing.
use Prim.Native.Nat.{◌≤◌}
use mathlib.Core.List.{map}
use Rattle.rules.specs.Streams.{in_role, members}
use Rattle.buffers.proofs.Written.{Written}
use Rattle.leadership.specs.Meaning.{notice_by}
use Rattle.arbitration.specs.Meaning.{streams_of}
use Rattle.arbitration.proofs.Passing.{rest}
use Rattle.arbitration.proofs.Streams.write_role.Given as goal

abbrev pub invariant-loop-stream : goal.invariant-loop-stream
invariant-loop-stream l =
    let e = streams_of l.self in
    let f = notice_by l.leadership in
    (l.count ≤ l.stream) × Written 20 (map f (members e l.role)) l.initial.out (map f (rest (in_role l.role) e l.stream)) l.out l.count
