-- Each call may write one digit fewer.
use Rattle.transcript.proofs.Line.+digits.Given as goal

abbrev pub decreases-digits : goal.decreases-digits
decreases-digits l = l.most
