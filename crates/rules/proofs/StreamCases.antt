-- The worked cases of frames, streams and primaries hold because the definitions compute to them. Assumes nothing.
use mathlib.Core.Path.{refl}
use mathlib.Core.List.{[], ◌∷◌}
use Rattle.rules.specs.Sample.{leading}
use Rattle.rules.specs.StreamCases.{largest, Frames, Elections}
use Rattle.rules.proofs.Computing.{computing}
use Rattle.rules.proofs.Runs.{InTurns, computed-in-turn, in-turn}

on-leading : InTurns leading (largest ∷ [])
unfolding computing
on-leading = computed-in-turn leading (largest ∷ [])

pub frames : Frames
unfolding computing
frames = record {
  formed = refl;
  largest = in-turn leading (largest ∷ []) on-leading 0;
  command = refl;
  lengths = refl;
  stream = refl;
  arbitrate-head = refl;
  configure-head = refl;
  write-head = refl;
  rows = refl;
  updates = refl;
  atomicity = refl;
  only = refl;
}

pub elections : Elections
unfolding computing
elections = record {
  play = refl;
  first-and-last = refl;
  opened-again = refl;
  no-mark = refl;
  long-ids = refl;
  changes = refl;
  backup-closes = refl;
  roles = refl;
  unbound-refused = refl;
  primary-refused = refl;
  primary-clashes = refl;
  backup-clashes = refl;
  ninth = refl;
  refused-ids = refl;
  mark-stays = refl;
  late-batch = refl;
}
