-- The calls so far; the bytes at hand are in the input, and before them are whole frames. Assumes nothing.
use Rattle.std.proofs.Common.{◌≡◌, ◌≤◌, length, take}
use Rattle.transcript.specs.Input.{CutAt}
use Rattle.session.specs.Session.{Session}
use Rattle.play.proofs.run.Given as goal

abbrev pub invariant-loop : goal.invariant-loop
invariant-loop l = record {
  session : Session l.fn.agent 1 l.initial.store l.initial.answer l.player.agent l.player.ordinal l.store l.answer;
  before : l.at ≤ l.filled;
  as_long : length l.input ≡ length l.initial.input;
  within : l.filled ≤ length l.input;
  cut : CutAt (take l.filled l.input) l.at;
}
