-- Right because the bytes are the same, and were tested. Assumes nothing.
use Prim.Native.Nat.{ℕ}
use native.Mathlib.Omega.{arith}
use mathlib.Core.Path.{◌≡◌, sym, ap, ◌∙◌}
use mathlib.Core.Bool.{true}
use mathlib.Core.List.{List}
use lib.ListN.{length}
use lib.Seq.{take_all}
use Rattle.rules.specs.Bytes.{same}
use Rattle.rules.proofs.Tests.{same_true}
use Rattle.keys.specs.Rest.{short_rest}
use Rattle.keys.proofs.Sought.new.Goals as goal

pub invariant_of-result : goal.invariant_of-result
invariant_of-result c = record {
  long = ap length (c.array_at-rest.ensures ∙ take_all 144 c.args.rest.now (omega arith)) ∙ c.requires.1;
  told = λ t. let short : c.is_short.result ≡ true = grind (arith, t) in sym (same_true _ _ (sym c.is_short.ensures ∙ short));
}

pub returns-clause-rest : goal.returns-clause-rest
returns-clause-rest c = c.array_at-rest.ensures ∙ take_all 144 c.args.rest.now (omega arith)

pub returns-clause-short : goal.returns-clause-short
returns-clause-short c =
    c.is_short.ensures ∙ ap (λ (r : List ℕ). same r (short_rest r)) (c.array_at-rest.ensures ∙ take_all 144 c.args.rest.now (omega arith))
