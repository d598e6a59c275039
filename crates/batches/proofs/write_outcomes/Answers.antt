-- Right because the pairs written and those left are all of them. Assumes nothing.
use Prim.Native.Nat.{ℕ, ◌+◌, ◌*◌, ◌-◌, ◌≤◌, ◌<◌}
use native.Mathlib.Omega.{arith}
use mathlib.Core.Path.{◌≡◌, refl, ap}
use mathlib.Core.List.{List, [], map}
use lib.ListN.{length, drop, drop_of_length-le}
use Rattle.rules.specs.Call.{pair_of}
use Rattle.rules.specs.Named.{number_of}
use Rattle.rules.specs.Update.{rolled_back}
use Rattle.buffers.proofs.Splice.{part-copied}
use Rattle.buffers.proofs.Written.{written_none, written_next, written_all}
use Rattle.batches.proofs.AllOrNone.{rolled-count, outcomes-from}
use Rattle.batches.proofs.write_outcomes.Goals as goal

pub loop-k-init : goal.loop-k-init
loop-k-init c = written_none 2 _ _

pub loop-k-preserved : goal.loop-k-preserved
loop-k-preserved c =
    let w = c.write_pair in
    let l = c.loop-k in
    let a = c.args in
    let x : List ℕ = l.answer in
    let i : ℕ = l.k in
    let h : i < a.n = omega arith in
    let room : 2 * i + 2 ≤ length x = omega arith in
    let start : 2 * i ≤ length a.answer.now = omega arith in
    let own : ℕ = number_of a.own in
    let written =
    part-copied x w.new.out (pair_of (number_of c.outcome.result)) (2 * i) (length x - 2 * i) w.ensures (omega (arith, room)) (omega (arith, room)) in
    written_next l.invariant (ap (map pair_of) (outcomes-from a.n a.at own i h)) refl start (rw c.outcome.ensures at written) refl

pub returns : goal.returns
returns c =
    let l = c.loop-k in
    let a = c.args in
    let rs : List ℕ = rolled_back a.n (a.at, number_of a.own) in
    let none : drop l.k rs ≡ [] = drop_of_length-le rs {i = l.k} (omega (arith, rolled-count a.n a.at (number_of a.own))) in
    (written_all l.invariant (ap (map pair_of) none)).1
