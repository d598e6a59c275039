-- Right because each field and each action is held at its place. Assumes nothing.
use Rattle.std.proofs.Common.{◌≡◌, length, arith, length-take, length-drop}
use Rattle.std.proofs.lemmas.List.{take-map}
use Rattle.rules.specs.Bytes.{part, parts}
use Rattle.rules.specs.Row as rules
use Rattle.rows.specs.Meaning.{field_of, action_of, row_of, row_read, action_read}
use Rattle.rows.proofs.Held.{part-two, part-four}
use Rattle.rows.proofs.Chunks.{chunks-are, four_alike}
use Rattle.rows.proofs.Row.read.Goals as goal

pub returns : goal.returns
unfolding row_of row_read parts
returns c =
    let b = c.args.b.now in
    let eight : length (part 8 8 b) ≡ 8 = simp (length-take, length-drop) (omega arith) in
    let long : length (part 17 36 b) ≡ 36 = simp (length-take, length-drop) (omega arith) in
    let f : c.as_chunks.result.0.now ≡ parts 4 2 (part 8 8 b) = chunks-are 2 4 (part 8 8 b) c.as_chunks.ensures.front (rw eight) in
    let a : c.as_chunks-2.result.0.now ≡ parts 4 9 (part 17 36 b) = chunks-are 9 4 (part 17 36 b) c.as_chunks-2.ensures.front (rw long) in
    let fields =
    four_alike field_of rules.field_of 2 (part 8 8 b) f c.read.ensures c.read-2.ensures c.read-3.ensures c.read-4.ensures in
    let actions =
    four_alike action_of action_read 9 (part 17 36 b) a c.read-5.ensures c.read-6.ensures c.read-7.ensures c.read-8.ensures in
    rw (
      part-four 0 b (omega arith),
      part-two 5 b (omega arith),
      ← take-map rules.field_of,
      ← take-map action_read,
      ← fields,
      ← actions,
      ← take-map field_of,
      ← take-map action_of,
    )
