-- Right because each part of the scan is that of the record, of the sender's role or else of the one asked for. Assumes nothing.
use borrow.Author.Rules.{rules}
use Rattle.arbitration.proofs.Places.{sized, sized-marks}
use Rattle.arbitration.proofs.Streams.scan.Goals as goal

pub returns : goal.returns
returns c =
    let self = c.args.self.now in
    record {
      streams = sized self (search rules);
      marks = sized-marks self (search rules);
      own = c.binding-own.ensures;
      role = search rules;
      members = search rules;
      used = search rules;
      leadership = c.leadership.ensures.shown;
    }
