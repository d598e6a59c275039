-- Right because the value's number is the one that is compared. Assumes nothing.
use Prim.Native.Nat.{ℕ, ◌^◌}
use mathlib.Core.Path.{ap, ◌∙◌}
use lib.Dec.{ltb}
use Rattle.rules.specs.Value.{fits}
use Rattle.values.proofs.fits.Goals as goal

pub returns : goal.returns
unfolding fits
returns c =
    c.fits.ensures ∙ ap (λ (n : ℕ). ltb n (2 ^ c.args.width)) c.of_value.ensures
