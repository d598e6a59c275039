-- The worked cases of the comparison of keys hold because the definition computes to them. Assumes nothing.
use mathlib.Core.Path.{refl}
use Rattle.rules.specs.Key.{same_value, same_slot, same_key}
use Rattle.rules.specs.KeyCases.{Comparisons}
use Rattle.rules.proofs.Computing.{computing}

pub comparisons : Comparisons
unfolding computing same_value same_slot same_key
comparisons = record {
  padded = refl;
  most = refl;
  zero = refl;
  apart = refl;
  whole = refl;
  middle = refl;
  unused = refl;
  stored-padded = refl;
  malformed = refl;
}
