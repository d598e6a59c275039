-- Right because the key of the update is written in shortest form, and after it what was noted, up to the end. Assumes nothing.
use Prim.Native.Nat.{ℕ, ◌+◌, ◌-◌}
use native.Mathlib.Omega.{arith}
use mathlib.Core.Path.{◌≡◌, ap, ◌∙◌}
use mathlib.Core.List.{List, ◌++◌}
use lib.ListN.{length, take, drop, replicate, length-append, length-drop, length-replicate}
use lib.Seq.{take_all}
use borrow.Rule.Slice.PartMut.{put_mid}
use Rattle.rules.specs.Key.{short_key}
use Rattle.rules.proofs.Shortest.{key-length}
use Rattle.buffers.specs.Splice.{splice}
use Rattle.buffers.proofs.Splice.{part-copied, splice-next, splice-end, length-splice}
use Rattle.changes.proofs.old_entry.Goals as goal

-- the two pieces, one after the other: `keyed` has the key, and `piece` comes back as its last 72 bytes
made : (u note before keyed piece : List ℕ) → length u ≡ 221 → length note ≡ 74 → length before ≡ 220
    → keyed ≡ splice before 0 (short_key (drop 1 u))
    → piece ≡ splice (take 72 (drop 148 keyed)) 0 (take 72 (drop 2 note))
    → put_mid 148 72 keyed piece ≡ short_key (drop 1 u) ++ drop 2 note
made u note before keyed piece l m n k w =
    let key : List ℕ = short_key (drop 1 u) in
    let action : List ℕ = drop 2 note in
    let d : length (drop 1 u) ≡ 220 = length-drop 1 u ∙ ap (λ (x : ℕ). x - 1) l in
    let q : length key ≡ 148 = key-length (drop 1 u) (omega arith) in
    let r : length action ≡ 72 = length-drop 2 note ∙ ap (λ (x : ℕ). x - 2) m in
    let all : take 72 action ≡ action = take_all 72 action (omega arith) in
    let f : length keyed ≡ 220 = ap length k ∙ length-splice before 0 key (omega arith) ∙ n in
    let both : length (key ++ action) ≡ length key + length action = length-append key action in
    part-copied keyed piece action 148 72 (rw all at w) (omega arith) (omega arith)
    ∙ ap (λ (x : List ℕ). splice x 148 action) k
    ∙ splice-next before 0 148 key action (omega arith) (omega arith)
    ∙ splice-end before 0 (key ++ action) (omega arith)

pub returns : goal.returns
returns c =
    let a = c.args in
    let w = c.copy in
    made a.update.now a.note.now (replicate 220 0) c.shorten_key.new.dst w.new.dst c.told-update c.told-note (length-replicate {A = ℕ} 220 0)
    (c.shorten_key.ensures ∙ ap (λ (e : List ℕ). splice (replicate 220 0) 0 (short_key e)) c.entry_of.ensures) w.ensures
