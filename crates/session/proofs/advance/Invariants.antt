-- The calls so far and their lines; and each turn takes a frame of the input. Assumes nothing.
use Rattle.std.proofs.Common.{◌-◌, length}
use Rattle.session.specs.Session.{CallsMade}
use Rattle.session.proofs.advance.Given as goal

abbrev pub invariant-loop-frame : goal.invariant-loop-frame
invariant-loop-frame l =
    CallsMade l.fn.start.agent l.fn.start.ordinal l.input l.initial.store l.initial.answer l.initial.out
    l.player.agent l.player.ordinal l.at l.end l.store l.answer l.out

abbrev pub decreases-loop-frame : goal.decreases-loop-frame
decreases-loop-frame l = length l.input - l.at
