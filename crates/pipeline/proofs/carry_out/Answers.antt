-- Right because the rows that 14 allows are held as the rules read them. Assumes nothing.
use Prim.Native.Nat.{ℕ, ◌*◌, ◌≤◌}
use native.Mathlib.Omega.{arith}
use mathlib.Core.Path.{ap, ◌∙◌}
use mathlib.Core.List.{List, map}
use lib.ListN.{length, drop, length-drop}
use Rattle.rows.specs.Meaning.{row_read}
use Rattle.election.specs.Meaning.{head_of}
use Rattle.pipeline.proofs.Configuring.{rows-configured}
use Rattle.pipeline.proofs.carry_out.Goals as goal

pub returns : goal.returns
returns c =
    let a = c.args in
    let rows = drop 28 a.frame.now in
    let long : 53 * a.command.count ≤ length rows = rw length-drop (omega (arith, c.requires.1)) in
    rows-configured (head_of a.command.head) a.command.count rows long (c.read.ensures ∙ ap (map row_read) c.rows_in.ensures.rows) c.none.ensures
