-- The end of a service, and the print of its history.
use Rattle.std.specs.Prelude.{◌≡◌, ◌≤◌, ◌⊎◌, Bool, true, false, ◌&&◌, not, List}
use Rattle.std.specs.Io.KnownBytes.{Appends}
use Rattle.da_base.specs.Words.{Bytes}
use Rattle.da_command.specs.declared.status.Status.{Status}
use Rattle.da_command.specs.declared.status.Status.TheVariants.{Done, Full, NoMemory, WriteFault}
use Rattle.da_outside.specs.Sink.{SinkState}
use Rattle.da_play.specs.Legal.{IsLegal, is_full, is_over}
use Rattle.da_play.specs.declared.input.Entry.{Entry}
use Rattle.da_port.specs.declared.terms.Terms.{Terms}
use Rattle.da_script.specs.Scripts.{script}
use Rattle.da_stream.specs.Output.{Begins, WrittenFront, WrittenWhole}
use Rattle.da_turn.specs.Entries.{IsLater}

-- ---- when a service ends

-- the goal was met after some front of the history
pub record WasOver (terms : Terms) (h : List Entry) : Type 0 where
  pub before : List Entry
  pub later : IsLater before h
  pub over : is_over terms.settings terms.goal before ≡ true

-- the history is full, or its goal was met
abbrev pub HasEnded : Terms → List Entry → Type 0
HasEnded terms h = (is_full terms.settings h ≡ true) ⊎ WasOver terms h

-- it is full, and its goal isn't met
abbrev pub ends_full : Terms → List Entry → Bool
ends_full terms h = is_full terms.settings h && not (is_over terms.settings terms.goal h)

-- ---- what is printed

-- a front of the text was written, with no fault told
pub record WrittenPart (text : Bytes) (before after : SinkState) : Type 0 where
  pub front : Bytes
  pub begins : Begins front text
  pub writes : Appends before.contents after.contents front
  pub later : before.faults ≤ after.faults

-- By the status. No other comes.
--   Done: the whole script was written, the history isn't full or its goal is met, and the goal was met after some front.
--   Full: the whole script was written, the history is full, and its goal isn't met.
--   WriteFault: the sink failed, and a front of the script was written.
--   NoMemory: a front of the script was written.
abbrev pub Prints : Terms → List Entry → SinkState → SinkState → Status → Type 0
Prints terms h before after Done = WrittenWhole (script h) before after × (ends_full terms h ≡ false) × WasOver terms h
Prints terms h before after Full = WrittenWhole (script h) before after × (ends_full terms h ≡ true)
Prints terms h before after WriteFault = WrittenFront (script h) before after
Prints terms h before after NoMemory = WrittenPart (script h) before after
Prints terms h before after _ = ⊥

-- the history that was printed: it is legal, has ended, and goes on from what the seat had seen
pub record Finishes (terms : Terms) (seen : List Entry) (before after : SinkState) (status : Status) : Type 0 where
  pub history : List Entry
  pub later : IsLater seen history
  pub legal : IsLegal terms.settings history
  pub ended : HasEnded terms history
  pub prints : Prints terms history before after status
