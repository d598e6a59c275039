-- The bench cases hold because the definitions compute to them. Assumes nothing.
use mathlib.Core.Path.{refl}
use Rattle.rules.specs.Bench.{BenchCases}
use Rattle.rules.proofs.Computing.{computing}

pub bench : BenchCases
unfolding computing
bench = record {
  p1 = (refl, refl);
  p2 = refl;
  p3 = refl;
  p4 = refl;
  p5 = (refl, refl, refl, refl, refl);
  p6 = (refl, refl, refl);
  p7 = (refl, refl, refl, refl, refl, refl);
  p8 = (refl, refl);
  p9 = refl;
}
