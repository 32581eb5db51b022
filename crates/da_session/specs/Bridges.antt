-- Bridges: one entry of a connection, the lines at hand, and why reading stopped. Only the code cites them.
use Rattle.std.specs.Prelude.{◌≡◌, ◌⊎◌, ℕ, ◌+◌, ⊤, true, false, List, ◌++◌, length, Option, Some, None}
use Rattle.std.specs.Io.KnownBytes.{IsAtEnd}
use Rattle.da_base.specs.Words.{Bytes}
use Rattle.da_outside.specs.Causes.{Rose}
use Rattle.da_outside.specs.Source.{SourceState}
use Rattle.da_play.specs.Legal.{is_full}
use Rattle.da_play.specs.declared.input.Input.{Input}
use Rattle.da_play.specs.declared.input.Input.TheVariants.{Broken, Gone}
use Rattle.da_play.specs.declared.outputs.Outputs.{Outputs}
use Rattle.da_play.specs.declared.outputs.Refused.{Refused}
use Rattle.da_play.specs.declared.outputs.Refused.TheVariants.{ConnLimit, HistoryFull, NoConn, NoMemory as RefusedNoMemory, NotLate, NotTaken, NothingWaits}
use Rattle.da_port.specs.Calls.{Looks, PortSeat, Records}
use Rattle.da_port.specs.declared.terms.Terms.{Terms}
use Rattle.da_session.specs.Reading.{IsNotOpen, RecordsAll, RecordsFirst}
use Rattle.da_session.specs.Sessions.{RecordsLinesThen}
use Rattle.da_session.specs.declared.ends.ReadEnd.{ReadEnd}
use Rattle.da_session.specs.declared.ends.ReadEnd.TheVariants.{Closed as ReadClosed, Cut, Ended, Full as ReadFull, NoMemory as ReadNoMemory}
use Rattle.da_session.specs.declared.lines.Stop.{Stop}
use Rattle.da_session.specs.declared.lines.Stop.TheVariants.{Closed as StopClosed, End, Fault, Full as StopFull, NoMemory as StopNoMemory, TooLong}
use Rattle.da_session.specs.declared.reader.Parting.{Parting}
use Rattle.da_session.specs.declared.reader.Parting.TheVariants.{Full as PartFull, NotOpen as PartNotOpen, Recorded}
use Rattle.da_session.specs.declared.steps.Step.{Step}
use Rattle.da_session.specs.declared.steps.Step.TheVariants.{Recorded as StepRecorded, Closed, NotOpen, Full, NoMemory}
use Rattle.da_turn.specs.Seats.{IsFree, IsSame, IsSound, fixed_of, parted, seen}

-- it is the same seat, on the same terms and without a turn, and no seat was split from it
abbrev pub Sits : PortSeat → PortSeat → Type 0
Sits s t = IsSame s t × IsFree t × (fixed_of t ≡ fixed_of s) × (parted t ≡ parted s)

-- ---- one entry

-- the call made an entry of this input, at a moment that the clock may tell
pub record IsRecorded (terms : Terms) (may_tell : ℕ → Type 0) (s t : PortSeat) (input : Input) : Type 0 where
  pub moment : ℕ
  pub told : may_tell moment
  pub out : Outputs
  pub records : Records terms s t moment input out

-- the step where an input of a connection was refused so
abbrev pub step_after : Refused → Step
step_after HistoryFull = Full
step_after RefusedNoMemory = NoMemory
step_after (ConnLimit count) = NotOpen
step_after (NoConn conn) = NotOpen
step_after NothingWaits = NotOpen
step_after (NotTaken query) = NotOpen
step_after (NotLate query due) = NotOpen

-- by the step: what became of an input of the connection
abbrev pub TakesStep : Terms → (ℕ → Type 0) → ℕ → PortSeat → PortSeat → Input → Step → Type 0
TakesStep terms may_tell conn s t input StepRecorded = IsRecorded terms may_tell s t input
TakesStep terms may_tell conn s t input Closed = IsRecorded terms may_tell s t input × IsNotOpen terms conn t
TakesStep terms may_tell conn s t input NotOpen = Looks s t × IsNotOpen terms conn t
TakesStep terms may_tell conn s t input Full = Looks s t × (is_full terms.settings (seen t) ≡ true)
TakesStep terms may_tell conn s t input NoMemory = Looks s t

-- ---- the lines at hand

-- the draws from the n-th on are those now to come
abbrev pub HasDrawn : Option (ℕ → Bytes) → Option (ℕ → Bytes) → ℕ → Type 0
HasDrawn None now n = ⊤
HasDrawn (Some draws) None n = ⊥
HasDrawn (Some draws) (Some now) n = (k : ℕ) → now k ≡ draws (n + k)

-- the first of these lines were recorded
pub record RecordsSome (terms : Terms) (may_tell : ℕ → Type 0) (draws : Option (ℕ → Bytes)) (conn : ℕ) (s t : PortSeat) (ready : List Bytes) : Type 0 where
  pub lines : List Bytes
  pub others : List Bytes
  pub are_lines : ready ≡ lines ++ others
  pub records : RecordsLinesThen terms may_tell draws conn s t lines None

-- By why no further line is recorded; None where each line of those at hand was.
abbrev pub IsStopped : Terms → ℕ → PortSeat → Stop → Type 0
IsStopped terms conn t StopClosed = IsNotOpen terms conn t × IsSound t
IsStopped terms conn t StopFull = (is_full terms.settings (seen t) ≡ true) × IsSound t
IsStopped terms conn t StopNoMemory = ⊤
IsStopped terms conn t TooLong = ⊥
IsStopped terms conn t End = ⊥
IsStopped terms conn t Fault = ⊥

abbrev pub StopsLines : Terms → (ℕ → Type 0) → Option (ℕ → Bytes) → Option (ℕ → Bytes) → ℕ → PortSeat → PortSeat → List Bytes → Option Stop → Type 0
StopsLines terms may_tell draws now conn s t ready None = RecordsLinesThen terms may_tell draws conn s t ready None × HasDrawn draws now (length ready)
StopsLines terms may_tell draws now conn s t ready (Some stop) = RecordsSome terms may_tell draws conn s t ready × IsStopped terms conn t stop

-- ---- the lines of a source

-- by why reading stopped; no end was recorded yet
abbrev pub StopsReading : Terms → (ℕ → Type 0) → Option (ℕ → Bytes) → ℕ → SourceState → SourceState → PortSeat → PortSeat → Stop → Type 0
StopsReading terms may_tell draws conn before after s t StopClosed = RecordsFirst terms may_tell draws conn before after s t None × IsNotOpen terms conn t × IsSound t
StopsReading terms may_tell draws conn before after s t StopFull =
    RecordsFirst terms may_tell draws conn before after s t None × (is_full terms.settings (seen t) ≡ true) × IsSound t
StopsReading terms may_tell draws conn before after s t StopNoMemory = RecordsFirst terms may_tell draws conn before after s t None
StopsReading terms may_tell draws conn before after s t TooLong = RecordsAll terms may_tell draws conn before after s t true None
StopsReading terms may_tell draws conn before after s t End = RecordsAll terms may_tell draws conn before after s t false None × IsAtEnd after.left
StopsReading terms may_tell draws conn before after s t Fault =
    RecordsAll terms may_tell draws conn before after s t false None × Rose before.faults after.faults

-- ---- the end

-- by how it went with Gone
abbrev pub Parts : Terms → (ℕ → Type 0) → ℕ → PortSeat → PortSeat → Parting → Type 0
Parts terms may_tell conn s t Recorded = IsRecorded terms may_tell s t (Gone conn)
Parts terms may_tell conn s t PartNotOpen = Looks s t × IsNotOpen terms conn t
Parts terms may_tell conn s t PartFull = Looks s t × (is_full terms.settings (seen t) ≡ true)

-- what is answered then, where this is answered once Gone is recorded
abbrev pub end_after : Parting → ReadEnd → ReadEnd
end_after Recorded end = end
end_after PartNotOpen end = ReadClosed
end_after PartFull end = ReadFull

-- by how it went with Broken
abbrev pub BreaksOff : Terms → (ℕ → Type 0) → ℕ → PortSeat → PortSeat → ReadEnd → Type 0
BreaksOff terms may_tell conn s t ReadClosed = (Looks s t ⊎ IsRecorded terms may_tell s t (Broken conn)) × IsNotOpen terms conn t
BreaksOff terms may_tell conn s t ReadFull = Looks s t × (is_full terms.settings (seen t) ≡ true)
BreaksOff terms may_tell conn s t ReadNoMemory = IsRecorded terms may_tell s t (Gone conn)
BreaksOff terms may_tell conn s t Ended = ⊥
BreaksOff terms may_tell conn s t Cut = ⊥
