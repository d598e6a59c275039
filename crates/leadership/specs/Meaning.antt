-- What the leadership of a role means in the rules' terms. Assumes nothing.
use Rattle.std.proofs.Math.Option as math
use Rattle.std.specs.Prelude.{List, ℕ, ltb, if◌then◌else◌, Option, Some, None}
use Rattle.rules.specs.Streams as rules
use Rattle.election.specs.Meaning.{id_of}
use Rattle.leadership.specs.declared.Leadership.{Leadership}

-- the primary of a role, or none
abbrev pub primary_of : Option ℕ → math.Option ℕ
primary_of None = math.none
primary_of (Some s) = math.some s

-- a stream's number, or none from 32 on
abbrev pub numbered : ℕ → math.Option ℕ
numbered k = if ltb k 32 then math.some k else math.none

-- the record by which a stream is notified
abbrev pub notice_by : Leadership → ℕ → List ℕ
notice_by l = rules.notice_of (primary_of l.primary) (id_of l.mark) l.role
