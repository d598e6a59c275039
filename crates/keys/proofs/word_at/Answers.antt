-- Right because a word of a key's shortest form that is in a value is one of the value's shortest form. Assumes nothing.
use Prim.Native.Nat.{ℕ}
use native.Mathlib.Omega.{arith}
use mathlib.Core.Path.{sym, ap, ◌∙◌}
use mathlib.Core.List.{List}
use Rattle.rules.specs.Bytes.{part}
use Rattle.rules.specs.Value.{short}
use Rattle.buffers.specs.Word.{little_endian}
use Rattle.keys.proofs.Rest.{value-at}
use Rattle.keys.proofs.word_at.Goals as goal

pub returns : goal.returns
returns c =
    let a = c.args in
    c.short_word.ensures ∙ ap (λ (v : List ℕ). little_endian (part a.from 8 (short v))) c.value_at.ensures
    ∙ ap little_endian (sym (value-at a.rest.now a.at a.from c.told-rest c.requires.0 (omega arith)))
