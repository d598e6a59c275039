-- Right because four entries more are passed over where none of them has the word. Assumes nothing.
use Prim.Native.Nat.{ℕ, ◌+◌, ◌-◌}
use native.Mathlib.Omega.{arith}
use mathlib.Core.Path.{◌≡◌, sym, ap, ◌∙◌}
use mathlib.Core.Bool.{Bool, false}
use mathlib.Core.List.{List}
use lib.Dec.{eqb}
use lib.ListN.{take, drop}
use Rattle.std.specs.List.{list_any}
use Rattle.std.proofs.Common.{rules, tests}
use Rattle.std.proofs.lemmas.Iterator.{YieldsList-from_slice}
use Rattle.std.proofs.lemmas.Iterator.Search.{any_from_yields_List}
use Rattle.rules.specs.Bytes.{part}
use Rattle.buffers.specs.Word.{little_endian}
use Rattle.store.proofs.Scan.{four-more}
use Rattle.store.proofs.pass_over.Goals as goal

pub loop-i-preserved : goal.loop-i-preserved
loop-i-preserved c =
    let es : List (List ℕ) = c.args.entries.now in
    let i : ℕ = c.loop-i.i in
    let has : List ℕ → Bool = λ e. eqb (little_endian (part (4 + c.args.probe.at) 8 e)) c.args.probe.word in
    let four : i + 4 - i ≡ 4 = omega arith in
    let said : c.any.result ≡ list_any has (take (i + 4 - i) (drop i es)) =
    any_from_yields_List has c.any.new.self _ c.any.result c.any.ensures.ran (YieldsList-from_slice (take (i + 4 - i) (drop i es)) (cc))
    (λ x b q k. search (rules, tests)) in
    let none : list_any has (take 4 (drop i es)) ≡ false = ap (λ (n : ℕ). list_any has (take n (drop i es))) (sym four) ∙ sym said ∙ c.if-any.false in
    (omega arith, omega arith, four-more has es c.args.from i 4 (omega arith) none c.loop-i.invariant.2)
