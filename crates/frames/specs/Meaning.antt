-- What a frame reads as, in the rules' terms. Rows, updates and keys stay in the frame. Assumes nothing.
use Rattle.std.specs.Prelude.{◌≡◌, List, ◌++◌, map, ℕ, ◌+◌, ◌*◌, ◌<◌, ◌≤◌, length, drop, Option, None, Some, Result, Ok, Err}
use Rattle.rules.specs.Bytes.{part, parts, int}
use Rattle.rules.specs.Frame as rules
use Rattle.rules.specs.declared.Reason.{Reason}
use Rattle.rules.specs.declared.Reason.TheVariants.{BadFrame}
use Rattle.election.specs.Meaning.{head_of}
use Rattle.frames.specs.declared.Atomicity.{Atomicity}
use Rattle.frames.specs.declared.Atomicity.TheVariants.{ContinueOnError, RollbackOnError, DataplaneAtomic}
use Rattle.frames.specs.declared.Query.{Query}
use Rattle.frames.specs.declared.StreamEvent.{StreamEvent}
use Rattle.frames.specs.declared.StreamEvent.TheVariants.{Open, Close, Arbitrate}
use Rattle.frames.specs.declared.PipelineCommand.{PipelineCommand}
use Rattle.frames.specs.declared.TableCommand.{TableCommand}
use Rattle.frames.specs.declared.TableCommand.TheVariants.{Write, Read}
use Rattle.frames.specs.declared.Command.{Command}
use Rattle.frames.specs.declared.Command.TheVariants.{Stream, Pipeline, Table}

-- ---- the atomicity of a WRITE, by number

abbrev pub atomicity_of : Atomicity → ℕ
atomicity_of ContinueOnError = 0
atomicity_of RollbackOnError = 1
atomicity_of DataplaneAtomic = 2

-- what a number is read as: over 2 it is none
abbrev pub AtomicityRead : ℕ → Result Atomicity Reason → Type 0
AtomicityRead n (Ok a) = atomicity_of a ≡ n
AtomicityRead n (Err reason) = (2 < n) × (reason ≡ BadFrame)

-- ---- a command, as it was read from the frame f

abbrev pub event_read : StreamEvent → rules.StreamEvent
event_read (Open s) = rules.OPEN s
event_read (Close s) = rules.CLOSE s
event_read (Arbitrate s h) = rules.ARBITRATE s (head_of h)

abbrev pub pipeline_read : PipelineCommand → List ℕ → rules.PipelineCommand
pipeline_read c f = rules.CONFIGURE (head_of c.head) (parts c.count rules.row_size (drop 28 f))

-- what a READ asks for; its key is in the frame
abbrev pub query_read : Query → List ℕ → rules.Query
query_read q f =
    record { device = q.device; role = q.role; table = q.table; only = q.only; key = part 10 4 f ++ part 15 rules.rest_size f }

abbrev pub table_read : TableCommand → List ℕ → rules.TableCommand
table_read (Write b) f =
    rules.WRITE (head_of b.head) b.atomicity (map rules.update_of (parts b.count rules.update_size (drop 29 f)))
table_read (Read q) f = rules.READ (query_read q f)

abbrev pub command_read : Command → List ℕ → rules.Command
command_read (Stream x) f = rules.on_streams (event_read x)
command_read (Pipeline x) f = rules.on_pipeline (pipeline_read x f)
command_read (Table x) f = rules.on_tables (table_read x f)

-- a command, or none where the frame is malformed
abbrev pub frame_read : Option Command → List ℕ → rules.Command
frame_read (Some c) f = command_read c f
frame_read None f = rules.malformed

-- ---- what a command leaves in the frame f is there: the count is in range, and f is as long as it says

abbrev pub RowsThere : PipelineCommand → List ℕ → Type 0
RowsThere c f = (c.count ≤ 8) × (length f ≡ 28 + rules.row_size * c.count)

-- the updates of a WRITE, the key of a READ: it is of the table that the READ names, and with only 1 it names one
abbrev pub OperandsThere : TableCommand → List ℕ → Type 0
OperandsThere (Write b) f = (b.count ≤ 64) × (length f ≡ 29 + rules.update_size * b.count)
OperandsThere (Read q) f = (length f ≡ 159) × (int 10 4 f ≡ q.table) × (q.only ≡ 1 → q.table ≡ 0 → ⊥)

abbrev pub CommandThere : Command → List ℕ → Type 0
CommandThere (Stream x) f = Unit {0}
CommandThere (Pipeline x) f = RowsThere x f
CommandThere (Table x) f = OperandsThere x f

abbrev pub FrameThere : Option Command → List ℕ → Type 0
FrameThere (Some c) f = CommandThere c f
FrameThere None f = Unit {0}
