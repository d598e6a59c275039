-- What a scan of the stream record shows an ARBITRATE, and what is decided of it. Assumes nothing.
use Rattle.std.specs.Prelude.{◌≡◌, Bool, false, ℕ, length}
use Rattle.rules.specs.Streams as rules
use Rattle.election.specs.declared.Head.{Head}
use Rattle.election.specs.Meaning.{id_of, head_of, binding_of, role_or}
use Rattle.leadership.specs.declared.Leadership.{Leadership}
use Rattle.leadership.specs.declared.Scan.{Scan}
use Rattle.leadership.specs.Meaning.{primary_of}

-- l is the leadership of its role in e
pub record LeadershipIn (l : Leadership) (e : rules.Streams) : Type 0 where
  pub primary : primary_of l.primary ≡ rules.primary e l.role
  pub mark : id_of l.mark ≡ rules.mark_of e l.role

-- the scan shows the record e to stream s, which asks for role r with id i
pub record ScanOf (scan : Scan) (e : rules.Streams) (s r i : ℕ) : Type 0 where
  pub streams : length e.streams ≡ 32
  pub marks : length e.marks ≡ 8
  pub own : binding_of scan.own ≡ rules.stream_at e s
  pub role : scan.leadership.role ≡ role_or r (binding_of scan.own)
  pub members : scan.members ≡ length (rules.members e scan.leadership.role)
  pub used : scan.used ≡ rules.held_elsewhere e s scan.leadership.role i
  pub leadership : LeadershipIn scan.leadership e

-- n is the reason of an ARBITRATE in every record that the scan shows
abbrev pub ReasonOf : ℕ → ℕ → Head → Scan → Type 0
ReasonOf n device h scan =
    (e : rules.Streams) (s : ℕ) → ScanOf scan e s h.role (id_of h.id) → n ≡ rules.arbitrate_reason device e s (head_of h)

-- whether stream s, which is x, is the primary of its role
abbrev pub leads : rules.Streams → ℕ → rules.Stream → Bool
leads e s rules.closed = false
leads e s rules.unbound = false
leads e s (rules.bound r i) = rules.is s (rules.primary e r)

-- t says whether stream s is the primary of its role, in every record that the scan shows
abbrev pub LeadsOf : Bool → ℕ → Scan → Type 0
LeadsOf t s scan = (e : rules.Streams) (r i : ℕ) → ScanOf scan e s r i → t ≡ leads e s (binding_of scan.own)

-- t says whether an accepted ARBITRATE of stream s leaves the pair of its role the same, in every record that the scan shows
abbrev pub KeepsOf : Bool → ℕ → Head → Scan → Type 0
KeepsOf t s h scan =
    (device : ℕ) (e : rules.Streams) → ScanOf scan e s h.role (id_of h.id) → 0 ≡ rules.arbitrate_reason device e s (head_of h)
    → t ≡ rules.same_pair e (rules.binds e s (head_of h)) h.role
