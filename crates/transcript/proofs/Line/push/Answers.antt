-- Right because the bytes from the place on that are as many as the text has are the text afterwards. Assumes nothing.
use Rattle.std.proofs.Common.{◌+◌, ◌-◌, ◌≡◌, length, refl, arith}
use Rattle.buffers.proofs.Splice.{part-replaced}
use Rattle.transcript.proofs.Line.push.Goals as goal

pub returns : goal.returns
returns c =
    let a = c.args in
    let k : length a.text.now ≡ a.self.now.at + length a.text.now - a.self.now.at = omega arith in
    record {
      same = refl;
      place = refl;
      within = c.requires;
      bytes = part-replaced a.self.now.out.now c.copy_from_slice.new.self a.text.now a.self.now.at _ c.copy_from_slice.ensures.after k;
    }
