-- What a refused call leaves: entries, configuration and remembered ids as they were; only a refused ARBITRATE (5 to 9) closes
-- a stream, its own (document 01, "Who brings a refusal about"). Assumes nothing.
use Rattle.std.specs.Prelude.{◌≡◌, ℕ, if◌then◌else◌}
use Rattle.rules.specs.Bytes.{between}
use Rattle.rules.specs.Frame.{StreamEvent, OPEN, CLOSE, ARBITRATE, Command, too_short, malformed, on_streams, on_pipeline, on_tables}
use Rattle.rules.specs.Streams.{Streams, closed, become}
use Rattle.rules.specs.Call.{State, refusal, next}

-- the stream record after a call refused under r
abbrev pub event_refused : Streams → StreamEvent → ℕ → Streams
event_refused e (OPEN n) r = e
event_refused e (CLOSE n) r = e
event_refused e (ARBITRATE n h) r = if between 5 9 r then become e n closed else e

abbrev pub streams_left : Streams → Command → ℕ → Streams
streams_left e too_short r = e
streams_left e malformed r = e
streams_left e (on_streams x) r = event_refused e x r
streams_left e (on_pipeline x) r = e
streams_left e (on_tables x) r = e

pub record LeftAlone (s : State) (c : Command) : Type 0 where
  pub tables : (next s c).tables ≡ s.tables
  pub rows : (next s c).control.rows ≡ s.control.rows
  pub device : (next s c).control.device ≡ s.control.device
  pub marks : (next s c).control.streams.marks ≡ s.control.streams.marks
  pub streams : (next s c).control.streams ≡ streams_left s.control.streams c (refusal s c)
