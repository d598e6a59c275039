-- What the stream record, an outcome and those who are to be notified mean in the rules' terms. Assumes nothing.
use Rattle.std.specs.Prelude.{◌≡◌, List, [], ◌∷◌, map, ℕ, max, set}
use Rattle.rules.specs.Named.{reason_of}
use Rattle.rules.specs.Streams as rules
use Rattle.election.specs.declared.Head.{Head}
use Rattle.election.specs.Meaning.{id_of, head_of, stream_of}
use Rattle.leadership.specs.declared.Scan.{Scan}
use Rattle.leadership.specs.Meaning.{notice_by}
use Rattle.leadership.specs.Scanning.{ScanOf}
use Rattle.arbitration.specs.declared.Streams.{Streams}
use Rattle.arbitration.specs.declared.Notify.{Notify}
use Rattle.arbitration.specs.declared.Notify.TheVariants.{None, Only, All}
use Rattle.arbitration.specs.declared.Outcome.{Outcome}

unfoldable pub streams_of : Streams → rules.Streams
streams_of e = record { streams = map stream_of e.streams; marks = map id_of e.marks }

-- the mark of role r raised to id i
abbrev pub raised : rules.Streams → ℕ → ℕ → rules.Streams
raised e r i = record { streams = e.streams; marks = set e.marks r (max (rules.mark_of e r) i) }

-- the records of who is to be notified: nobody, one stream, with the leadership that its record shows, or all streams of a role
unfoldable pub records_of : Notify → rules.Streams → List (List ℕ)
records_of None e = []
records_of (Only s l) e = notice_by l s ∷ []
records_of (All r) e = rules.notify_all e r

-- what an event leaves
abbrev pub outcome_of : Outcome → rules.Outcome
outcome_of o = record {
  after = streams_of o.streams;
  reason = reason_of o.result;
  records = records_of o.notify (streams_of o.streams);
}

-- n is who is to be notified of an ARBITRATE of stream s, in every record that the scan shows and on every device where reason is its reason
abbrev pub AudienceOf : Notify → ℕ → ℕ → Head → Scan → Type 0
AudienceOf n reason s h scan =
    (device : ℕ) (e : rules.Streams) → ScanOf scan e s h.role (id_of h.id) → reason ≡ rules.arbitrate_reason device e s (head_of h)
    → records_of n (rules.arbitrate device e s (head_of h)).after ≡ (rules.arbitrate device e s (head_of h)).records
