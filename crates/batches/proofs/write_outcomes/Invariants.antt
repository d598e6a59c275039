-- Right because the pairs written and those left are all of them. Assumes nothing.
use mathlib.Core.List.{map}
use lib.ListN.{drop}
use Rattle.rules.specs.Call.{pair_of}
use Rattle.rules.specs.Named.{number_of}
use Rattle.rules.specs.Update.{rolled_back}
use Rattle.buffers.proofs.Written.{Written}
use Rattle.batches.proofs.write_outcomes.Given as goal

abbrev pub invariant-loop-k : goal.invariant-loop-k
invariant-loop-k l =
    Written 2 (map pair_of (rolled_back l.n (l.at, number_of l.own))) l.initial.answer
    (map pair_of (drop l.k (rolled_back l.n (l.at, number_of l.own)))) l.answer l.k
