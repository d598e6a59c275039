-- Right because each turn adds one record after a blank. Assumes nothing.
use Rattle.std.proofs.Common.{◌≡◌, [], ◌∷◌, ◌++◌, List, ℕ, ◌+◌, ◌*◌, ◌-◌, ◌≤◌, take, drop, ap, ◌∙◌, subst, arith}
use Rattle.rules.specs.Bytes.{parts}
use Rattle.transcript.specs.Line.{blank, hex, records_hex}
use Rattle.transcript.specs.Written.{HasRoom, Adds}
use Rattle.transcript.specs.declared.Line.{Line}
use Rattle.transcript.proofs.Written.{adds-none, adds-then, room-after, room-front}
use Rattle.transcript.proofs.Lines.{records-more, records-split}
use Rattle.transcript.proofs.Line.records.Goals as goal

-- the next record as the code cuts it
abbrev next : ℕ → ℕ → List ℕ → List ℕ
next size i records = take (size * i + size - size * i) (drop (size * i) records)

more : (size i : ℕ) (records : List ℕ)
    → records_hex (parts (i + 1) size records) ≡ records_hex (parts i size records) ++ ((blank ∷ []) ++ hex (next size i records))
more size i records =
    let e : size ≡ size * i + size - size * i = omega arith in
    records-more i size records ∙ ap (λ (n : ℕ). records_hex (parts i size records) ++ (blank ∷ hex (take n (drop (size * i) records)))) e

room : (line line' : Line) (size i count : ℕ) (records : List ℕ) → HasRoom line (records_hex (parts count size records)) → i + 1 ≤ count
    → Adds line (records_hex (parts i size records)) line' → HasRoom line' ((blank ∷ []) ++ hex (next size i records))
room line line' size i count records h l p =
    let some = room-front line (records_hex (parts (i + 1) size records)) _
    (subst (HasRoom line) (records-split (i + 1) count size records l) h) in
    room-after p _ (subst (HasRoom line) (more size i records) some)

pub loop-i-init : goal.loop-i-init
unfolding parts records_hex
loop-i-init c = adds-none c.args.self.now (omega (arith, c.requires.room))

pub push-requires : goal.push-requires
push-requires c =
    let a = c.args in
    let r = room a.self.now c.loop-i.self a.size c.loop-i.i a.count a.records.now c.requires.room (omega arith) c.loop-i.invariant in
    room-front c.loop-i.self (blank ∷ []) (hex (next a.size c.loop-i.i a.records.now)) r

pub hex-requires : goal.hex-requires
hex-requires c =
    let a = c.args in
    let r = room a.self.now c.loop-i.self a.size c.loop-i.i a.count a.records.now c.requires.room (omega arith) c.loop-i.invariant in
    room-after c.push.ensures _ r

pub loop-i-preserved : goal.loop-i-preserved
loop-i-preserved c =
    rw (more c.args.size c.loop-i.i c.args.records.now) (adds-then c.loop-i.invariant (adds-then c.push.ensures c.hex.ensures))
