-- Right because each turn writes the record of the next stream of the list after those before it. Assumes nothing.
use mathlib.Core.List.{map}
use lib.ListN.{take, drop}
use Rattle.buffers.proofs.Written.{Written}
use Rattle.leadership.specs.Meaning.{notice_by}
use Rattle.leadership.proofs.write_members.Given as goal

abbrev pub invariant-loop-i : goal.invariant-loop-i
invariant-loop-i l =
    let f = notice_by l.leadership in
    Written 20 (map f (take l.count l.members)) l.initial.out (map f (drop l.i (take l.count l.members))) l.out l.i
