-- Right because the action is written after the key, and the key after the last entry. Assumes nothing.
use Prim.Native.Nat.{ℕ, ◌+◌, ◌*◌, ◌-◌, ◌≤◌}
use native.Mathlib.Omega.{arith}
use mathlib.Core.Path.{◌≡◌, ap, ◌∙◌}
use mathlib.Core.List.{List}
use lib.ListN.{length, drop}
use borrow.Rule.Slice.PartMut.{put_mid, same_len_mid}
use Rattle.rules.specs.Bytes.{part}
use Rattle.rules.specs.Key.{short_key}
use Rattle.rules.specs.Entry.{short_entry}
use Rattle.rules.proofs.Shortest.{key-length, entry_length}
use Rattle.buffers.specs.Splice.{splice}
use Rattle.buffers.proofs.Splice.{drop-splice, length-splice, splice-next, rest_back}
use Rattle.values.proofs.InPlace.{entry-parts}
use Rattle.store.proofs.Writes.{parts-append}
use Rattle.changes.proofs.insert.Goals as goal

-- an entry in shortest form is its key and then what comes after it
whole : (e s keyed after : List ℕ) (at : ℕ) → length e ≡ 220 → at + 220 ≤ length s → keyed ≡ splice s at (short_key e)
    → after ≡ splice keyed (at + 148) (drop 148 (short_entry e)) → after ≡ splice s at (short_entry e)
whole e s keyed after at l room w v =
    let n : length (short_key e) ≡ 148 = key-length e (omega arith) in
    v ∙ ap (λ (x : List ℕ). splice x (at + 148) (drop 148 (short_entry e))) w
    ∙ splice-next s at (at + 148) (short_key e) (drop 148 (short_entry e)) (omega arith) (omega arith)
    ∙ ap (splice s at) (entry-parts e l)

-- the store is as long as before, once the key is written in what comes after its last entry
keyed-long : (s d : List ℕ) (at : ℕ) → length d ≡ length (part at (length s - at) s) → length (put_mid at (length s - at) s d) ≡ length s
keyed-long s d at l = same_len_mid at (length s - at) s d l

pub write_action-requires : goal.write_action-requires
write_action-requires c =
    let a = c.args in
    let p = c.requires in
    (p.0, omega (arith, keyed-long a.store.now c.shorten_key.new.dst (220 * a.tables.count) c.shorten_key.auto.dst, p.1))

pub shape_of-store : goal.shape_of-store
shape_of-store c =
    let a = c.args in
    c.write_action.auto.store ∙ keyed-long a.store.now c.shorten_key.new.dst (220 * a.tables.count) c.shorten_key.auto.dst

pub returns : goal.returns
returns c =
    let a = c.args in
    let e : List ℕ = a.entry.now in
    let s : List ℕ = a.store.now in
    let at : ℕ = 220 * a.tables.count in
    let n : length (short_key e) ≡ 148 = key-length e (omega (arith, c.told-entry)) in
    let l : length (short_entry e) ≡ 220 = entry_length e c.told-entry in
    let room : at + 220 ≤ length s = omega (arith, c.requires.0, c.requires.1) in
    let keyed : put_mid at (length s - at) s c.shorten_key.new.dst ≡ splice s at (short_key e) =
    rest_back s c.shorten_key.new.dst (short_key e) at c.shorten_key.ensures (omega (arith, c.requires.0, c.requires.1)) in
    rw (whole e s _ c.write_action.new.store at c.told-entry room keyed c.write_action.ensures) (record {
      holds = parts-append a.tables.count 220 s (short_entry e) (omega (arith, room)) l;
      few = omega (arith, c.requires.0);
      room = length-splice s at (short_entry e) (omega (arith, l, room));
      beyond = drop-splice 56_320 s at (short_entry e) (omega (arith, l, c.requires.0)) (omega (arith, room));
    })
