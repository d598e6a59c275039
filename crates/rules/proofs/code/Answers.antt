-- `rules::code` meets its contract: the table agrees with the listed pairs at each of its 26 entries, which antt computes.
-- Assumes nothing.
use Rattle.std.proofs.Common.{sym, Bool, List, [], ◌∷◌, ℕ, eqb, get_or, rules}
use lib.Dec.{eqb→eq}
use Rattle.rules.specs.Reason.{pairs, code_of}
use Rattle.rules.proofs.Table.{at}
use Rattle.rules.proofs.UnlistedReasons.{past}
use Rattle.rules.proofs.code.Goals as goal

codes : List ℕ
codes =
    0 ∷ 3 ∷ 8 ∷ 9 ∷ 5 ∷ 5 ∷ 5 ∷ 9 ∷ 3 ∷ 8 ∷ 7 ∷ 7 ∷ 9 ∷ 12 ∷ 3 ∷ 5 ∷ 7 ∷ 3 ∷ 11 ∷ 3 ∷ 6 ∷ 5 ∷ 8 ∷ 2 ∷ 2 ∷ 10 ∷ []

agrees : ℕ → ℕ → Bool
agrees reason code = eqb code (code_of reason)

pub returns-then-reason-lt26 : goal.returns-then-reason-lt26
unfolding codes agrees code_of pairs
returns-then-reason-lt26 c =
    let r = c.args.reason in
    eqb→eq (get_or codes r 0) (code_of r) (at agrees codes tt r (search rules))

pub returns-else-reason-lt26 : goal.returns-else-reason-lt26
returns-else-reason-lt26 c = sym (past c.args.reason (search rules))
