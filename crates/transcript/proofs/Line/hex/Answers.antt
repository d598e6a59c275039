-- Right because each turn adds the two digits of one byte. Assumes nothing.
use Rattle.std.proofs.Common.{◌≡◌, [], ◌∷◌, ◌++◌, List, ℕ, ◌+◌, take, drop, subst, arith}
use Rattle.transcript.specs.Line.{hex}
use Rattle.transcript.specs.Written.{HasRoom}
use Rattle.transcript.proofs.Written.{adds-none, adds-then, room-after, room-front}
use Rattle.transcript.proofs.Lines.{hex-more, hex_split, hex_all}
use Rattle.transcript.proofs.Line.hex.Goals as goal

pub loop-b-init : goal.loop-b-init
unfolding hex
loop-b-init c = adds-none c.args.self.now (omega (arith, c.requires))

pub push-requires : goal.push-requires
push-requires c =
    let bs : List ℕ = c.args.bytes.now in
    let i : ℕ = c.loop-b.b-index in
    let digits : List ℕ = c.glyph.result ∷ c.glyph-in-loop-b.result ∷ [] in
    let e : hex (take (i + 1) bs) ≡ hex (take i bs) ++ digits =
    rw (c.glyph.ensures, c.glyph-in-loop-b.ensures) (hex-more bs i c.loop-b-test.true) in
    let some : HasRoom c.args.self.now (hex (take (i + 1) bs)) =
    room-front c.args.self.now (hex (take (i + 1) bs)) (hex (drop (i + 1) bs)) (subst (HasRoom c.args.self.now) (hex_split bs (i + 1)) c.requires) in
    room-after c.loop-b.invariant digits (subst (HasRoom c.args.self.now) e some)

pub loop-b-preserved : goal.loop-b-preserved
loop-b-preserved c =
    rw (hex-more c.args.bytes.now c.loop-b.b-index c.loop-b-test.true, ← c.glyph.ensures, ← c.glyph-in-loop-b.ensures)
    (adds-then c.loop-b.invariant c.push.ensures)

pub returns : goal.returns
returns c = rw (← hex_all c.args.bytes.now c.loop-b.b-index (omega arith)) c.loop-b.invariant
