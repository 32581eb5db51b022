-- What the play of one line does, and how the play of a script may end.
use Rattle.std.specs.Prelude.{◌≡◌, ◌≤◌, ℕ, ◌+◌, ◌-◌, ◌^◌, true, false, length, take, Option, Some, None, Result, Ok, Err}
use Rattle.std.specs.Io.KnownBytes.{Consumes, Appends, IsAtEnd}
use Rattle.da_base.specs.Words.{Bytes}
use Rattle.da_outside.specs.Causes.{Rose}
use Rattle.da_outside.specs.Sink.{SinkState}
use Rattle.da_outside.specs.Source.{SourceState}
use Rattle.da_stream.specs.declared.lines.LinesEnd.{LinesEnd}
use Rattle.da_stream.specs.declared.lines.LinesEnd.TheVariants.{Done as LinesDone, Cut, TooLong, LongInput, ReadFault as LinesReadFault, NoMemory as LinesNoMemory, Stopped}
use Rattle.da_stream.specs.BadLines.{IsFirstBad, first_bad, first_bad_at_end}
use Rattle.da_stream.specs.Output.{Begins, WrittenFront, WrittenWhole}
use Rattle.da_settings.specs.declared.settings.Settings.{Settings}
use Rattle.da_play.specs.declared.outputs.Refused.{Refused}
use Rattle.da_play.specs.declared.outputs.Refused.TheVariants.{HistoryFull, ConnLimit, NoConn, NothingWaits, NotTaken, NotLate, NoMemory as RefusedNoMemory}
use Rattle.da_play.specs.Legal.{is_full}
use Rattle.da_play.specs.Play.{Event, reply, history_after}
use Rattle.da_play.specs.Served.{Served}
use Rattle.da_script.specs.Events.{event_of}
use Rattle.da_script.specs.Replies.{reply_text}
use Rattle.da_script.specs.Scripts.{events}
use Rattle.da_app.specs.declared.play.LineStop.{LineStop}
use Rattle.da_app.specs.declared.play.LineStop.TheVariants.{NotEvent, Full as LineFull, WriteFault as LineWriteFault, NoMemory as LineNoMemory}
use Rattle.da_command.specs.declared.status.Status.{Status}
use Rattle.da_command.specs.declared.status.Status.TheVariants.{Done, BadScript, LongScript, NoMemory, ReadFault, WriteFault, Full}
use Rattle.da_app.specs.Script.{is_event, first_full, output_of, output}

-- ---- one line

-- the server, and the output that its replies go to
pub record Stage : Type 0 where
  pub server : Served
  pub output : SinkState

-- the line's event meets a history that isn't full, and the reply to it, which may be a refusal, is written
pub record PlaysEvent (n : ℕ) (line : Bytes) (old new : Stage) : Type 0 where
  pub event : Event
  pub spelled : event_of line ≡ Some event
  pub has_room : is_full old.server.settings old.server.history ≡ false
  pub writes : WrittenWhole (reply_text n (reply old.server.settings old.server.history event.0 event.1)) old.output new.output
  pub goes_on : new.server ≡ record old.server { history = history_after old.server.settings old.server.history event.0 event.1 }

-- the line's event meets a full history, and nothing is written
pub record MeetsFull (line : Bytes) (old new : Stage) : Type 0 where
  pub event : Event
  pub spelled : event_of line ≡ Some event
  pub full : is_full old.server.settings old.server.history ≡ true
  pub unwritten : new.output ≡ old.output

-- a front of the reply was written before a fault
pub record PlaysFront (n : ℕ) (line : Bytes) (old new : Stage) : Type 0 where
  pub event : Event
  pub spelled : event_of line ≡ Some event
  pub front : WrittenFront (reply_text n (reply old.server.settings old.server.history event.0 event.1)) old.output new.output

abbrev pub StopsAtEvent : ℕ → Bytes → Stage → Stage → LineStop → Type 0
StopsAtEvent n line old new NotEvent = (event_of line ≡ None) × (new.output ≡ old.output)
StopsAtEvent n line old new LineFull = MeetsFull line old new
StopsAtEvent n line old new LineWriteFault = PlaysFront n line old new
StopsAtEvent n line old new LineNoMemory = new.output ≡ old.output

abbrev pub Plays : ℕ → Bytes → Stage → Stage → Result (Unit {0}) LineStop → Type 0
Plays n line old new (Ok done) = PlaysEvent n line old new
Plays n line old new (Err stop) = StopsAtEvent n line old new stop

-- why the play of a line ends at once, where its event is refused so
abbrev pub ending : Refused → Option LineStop
ending HistoryFull = Some LineFull
ending (ConnLimit count) = None
ending (NoConn conn) = None
ending NothingWaits = None
ending (NotTaken query) = None
ending (NotLate query due) = None
ending RefusedNoMemory = Some LineNoMemory

-- a reply is written, or a front of it before a fault, or nothing where memory was wanted
abbrev pub WritesReply : Bytes → SinkState → SinkState → Result (Unit {0}) LineStop → Type 0
WritesReply text before after (Ok done) = WrittenWhole text before after
WritesReply text before after (Err LineWriteFault) = WrittenFront text before after
WritesReply text before after (Err LineNoMemory) = after ≡ before
WritesReply text before after (Err _) = ⊥

-- ---- a script

abbrev pub status_of_stop : ℕ → LineStop → Status
status_of_stop line NotEvent = BadScript line
status_of_stop line LineFull = Full
status_of_stop line LineWriteFault = WriteFault
status_of_stop line LineNoMemory = NoMemory

abbrev pub status_of_end : LinesEnd LineStop → Status
status_of_end LinesDone = Done
status_of_end (Cut line) = BadScript line
status_of_end (TooLong line) = BadScript line
status_of_end LongInput = LongScript
status_of_end LinesReadFault = ReadFault
status_of_end LinesNoMemory = NoMemory
status_of_end (Stopped line stop) = status_of_stop line stop

-- no event of these bytes meets a full history, and the output of them was written
pub record PlaysAll (s : Settings) (read written : Bytes) : Type 0 where
  pub has_room : first_full s read ≡ None
  pub writes : written ≡ output s read

-- the line of some number is the first that meets a full history, and the output of the events before it was written
pub record StopsAtFull (s : Settings) (read written : Bytes) : Type 0 where
  pub line : ℕ
  pub meets : first_full s read ≡ Some line
  pub writes : written ≡ output_of s (take (line - 1) (events read))

-- By the status: what was read, what was written, and what caused the end. The settings are those of the server.
--   Done: the whole input was read, each of its lines is an event and ended by LF, and the output of it was written.
--   BadScript: the line of this number is the first that is no event, whatever follows, or the input ends with it, or
--   within it; and the output of the events before it was written.
--   LongScript: 1,073,741,825 bytes were read, and the output of all but the last was written.
--   ReadFault: the source failed, and the output of what was read was written.
--   Full: some line is the first whose event meets a full history, no line before it is off the grammar, and the output
--   of the events before it was written.
--   WriteFault: the sink failed, and a front of the output of what was read was written.
--   NoMemory: a front of the output of what was read was written.
-- In the first four, no event before the end meets a full history, and but for the line of BadScript all lines read
-- before the end are events. No other status comes.
abbrev pub Ends : Settings → SourceState → SourceState → SinkState → SinkState → Bytes → Bytes → Status → Type 0
Ends s input input_after output_before output_after read written Done =
    IsAtEnd input_after.left × (first_bad_at_end is_event 16384 read ≡ None) × PlaysAll s read written
Ends s input input_after output_before output_after read written (BadScript line) =
    IsFirstBad is_event 16384 input_after read line × PlaysAll s read written
Ends s input input_after output_before output_after read written LongScript =
    (first_bad is_event 16384 (take (2 ^ 30) read) ≡ None) × PlaysAll s (take (2 ^ 30) read) written
Ends s input input_after output_before output_after read written ReadFault =
    Rose input.faults input_after.faults × (first_bad is_event 16384 read ≡ None) × PlaysAll s read written
Ends s input input_after output_before output_after read written Full = StopsAtFull s read written
Ends s input input_after output_before output_after read written WriteFault =
    Rose output_before.faults output_after.faults × Begins written (output s read)
Ends s input input_after output_before output_after read written NoMemory = Begins written (output s read)
Ends s input input_after output_before output_after read written _ = ⊥

-- how many bytes were read: one more than 1,073,741,824, or at most so many
abbrev pub IsLength : ℕ → Status → Type 0
IsLength n LongScript = n ≡ 2 ^ 30 + 1
IsLength n _ = n ≤ 2 ^ 30

-- the play of a script: what it read and wrote, and how it ended
pub record Ran (s : Settings) (input input_after : SourceState) (output_before output_after : SinkState) (status : Status) : Type 0 where
  pub read : Bytes
  pub written : Bytes
  pub reads : Consumes input.left input_after.left read
  pub few : IsLength (length read) status
  pub writes : Appends output_before.contents output_after.contents written
  pub ends : Ends s input input_after output_before output_after read written status
