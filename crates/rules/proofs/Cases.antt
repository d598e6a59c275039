-- The worked cases of the orders of refusals hold because the definitions compute to them. Assumes nothing.
use mathlib.Core.Path.{refl}
use mathlib.Core.List.{[], ◌∷◌}
use Rattle.rules.specs.Cases.{owned, judged, Orders, Witnesses}
use Rattle.rules.proofs.StreamCases.{frames, elections}
use Rattle.rules.proofs.EntryCases.{entries, configurations, updates}
use Rattle.rules.proofs.RollbackCases.{rollbacks}
use Rattle.rules.proofs.DeleteCases.{deletions}
use Rattle.rules.proofs.KeyCases.{comparisons}
use Rattle.rules.proofs.Computing.{computing}
use Rattle.rules.proofs.Runs.{Singly, computed-singly, each}

on-owned : Singly owned (judged ∷ [])
unfolding computing
on-owned = computed-singly owned (judged ∷ [])

pub orders : Orders
unfolding computing
orders = record {
  host = (refl, refl, refl, refl, refl, refl);
  open-close = refl;
  not-open = refl;
  unbound = refl;
  bound = refl;
  device = refl;
  configure = refl;
  write = refl;
  write-atomic = refl;
  read = refl;
  update = each owned (judged ∷ []) on-owned 0;
  store-full = (refl, refl, refl, refl, refl);
}

pub witnesses : Witnesses
witnesses = record {
  frames = frames;
  elections = elections;
  entries = entries;
  rollbacks = rollbacks;
  deletions = deletions;
  comparisons = comparisons;
  orders = orders;
  configurations = configurations;
  updates = updates;
}
