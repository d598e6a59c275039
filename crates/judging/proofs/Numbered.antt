-- What an update was judged to be, with the numbers that document 01 gives its reasons. Assumes nothing.
use mathlib.Core.Path.{◌≡◌, refl}
use Rattle.std.specs.Prelude.{Result, Ok, Err}
use Rattle.rules.specs.declared.Reason.{Reason}
use Rattle.rules.specs.Named.{number_of, reason_of}
use Rattle.judging.specs.declared.Change.{Change}
use Rattle.judging.specs.Verdict.{numbered}

pub numbered-reason : (v : Result Change Reason) → numbered number_of v ≡ reason_of v
numbered-reason (Ok change) = refl
numbered-reason (Err r) = refl
