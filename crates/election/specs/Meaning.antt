-- What the values of this crate mean in the rules' terms. Assumes nothing.
use Rattle.std.specs.Prelude.{ℕ, eqb, Option, Some, None, unwrap_or, if◌then◌else◌}
use Rattle.rules.specs.Frame as frame
use Rattle.rules.specs.Streams as rules
use Rattle.numbers.specs.Whole.{whole_of}
use Rattle.election.specs.declared.ElectionId.{ElectionId}
use Rattle.election.specs.declared.Head.{Head}
use Rattle.election.specs.declared.Binding.{Binding}
use Rattle.election.specs.declared.Binding.TheVariants.{Closed, Open, Bound}
use Rattle.election.specs.declared.Stream.{Stream}

-- an election id as a number, 0 where it is unset
abbrev pub id_of : ElectionId → ℕ
id_of e = whole_of e.number

abbrev pub head_of : Head → frame.Head
head_of h = record { device = h.device; role = h.role; id = id_of h.id }

-- what a stream is
abbrev pub binding_of : Binding → rules.Stream
binding_of Closed = rules.closed
binding_of Open = rules.unbound
binding_of (Bound r i) = rules.bound r (id_of i)

-- a stream of the record: phase 1 is open, 2 bound, and any other closed
abbrev pub stream_of : Stream → rules.Stream
stream_of s =
    if eqb s.phase 1 then rules.unbound else
    if eqb s.phase 2 then rules.bound s.role (id_of s.id) else
    rules.closed

-- the role that a stream is bound to
abbrev pub role_of : rules.Stream → Option ℕ
role_of rules.closed = None
role_of rules.unbound = None
role_of (rules.bound r i) = Some r

-- the same, or another where it is bound to none
abbrev pub role_or : ℕ → rules.Stream → ℕ
role_or other x = unwrap_or (role_of x) other
