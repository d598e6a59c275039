-- Right because what was passed is all zero: whether the whole is, is whether the rest is. Assumes nothing.
use mathlib.Core.Path.{◌≡◌, sym, ◌∙◌}
use native.Mathlib.Omega.{arith}
use Rattle.std.proofs.lemmas.Bool.Decides.{nat_tests}
use lib.Dec.{eqb}
use Rattle.std.proofs.lemmas.Iterator.{YieldsList-from_slice}
use Rattle.std.proofs.lemmas.Iterator.Search.{all_from_yields_List}
use Rattle.rules.specs.Bytes.{all_zero}
use Rattle.buffers.proofs.all_zero.Goals as goal

pub returns : goal.returns
returns c =
    let e : c.all.result ≡ all_zero c.loop-word.rest.now =
    all_from_yields_List (eqb 0) _ _ _ c.all.ensures.ran (YieldsList-from_slice c.loop-word.rest.now (cc)) (λ x b q k. grind (arith, nat_tests)) in
    e ∙ sym c.loop-word.invariant
