-- Right because the entries written and those of the table that are left make up all of them, so those written are the first. Assumes nothing.
use Rattle.store.proofs.Scan.{Gathered}
use Rattle.store.proofs.gather.Given as goal

abbrev pub invariant-loop-entry : goal.invariant-loop-entry
invariant-loop-entry l = Gathered l.table l.entries l.initial.answer l.answer l.n l.entry-index
