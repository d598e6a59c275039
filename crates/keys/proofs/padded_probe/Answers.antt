-- Right because both words are those of the shortest form of a value. Assumes nothing.
use native.Mathlib.Omega.{arith}
use Rattle.keys.proofs.Rest.{value-inside}
use Rattle.keys.proofs.padded_probe.Goals as goal

pub bounds-stored-at : goal.bounds-stored-at
bounds-stored-at c =
    let w = value-inside c.differing_value-at.result c.differing_value-at.ensures in
    omega arith

pub overflow_add-at : goal.overflow_add-at
overflow_add-at c =
    let w = value-inside c.differing_value-at.result c.differing_value-at.ensures in
    omega arith

pub word-requires : goal.word-requires
word-requires c =
    let w = value-inside c.differing_value-at.result c.differing_value-at.ensures in
    omega arith

pub overflow_add-result : goal.overflow_add-result
overflow_add-result c =
    let w = value-inside c.differing_value-at.result c.differing_value-at.ensures in
    omega arith

pub returns-then-last-word : goal.returns-then-last-word
returns-then-last-word c =
    let w = value-inside c.differing_value-at.result c.differing_value-at.ensures in
    record { inside = omega arith; there = c.word_at-last.ensures }

pub overflow_add-result-2 : goal.overflow_add-result-2
overflow_add-result-2 c =
    let w = value-inside c.differing_value-at.result c.differing_value-at.ensures in
    omega arith

pub returns : goal.returns
returns c =
    let w = value-inside c.differing_value-at.result c.differing_value-at.ensures in
    record { inside = omega arith; there = c.word_at.ensures }
