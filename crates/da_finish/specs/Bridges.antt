-- Words for the functions of the print: what a part of `finish_serve` answers. Only the code cites them.
use Rattle.std.specs.Prelude.{◌≡◌, Bool, true, false, List, [], ◌∷◌, ◌++◌, Result, Ok, Err}
use Rattle.da_base.specs.Words.{Bytes}
use Rattle.da_command.specs.declared.status.Status.{Status}
use Rattle.da_command.specs.declared.status.Status.TheVariants.{Done, Full}
use Rattle.da_finish.specs.Printed.{WrittenPart}
use Rattle.da_finish.specs.declared.finish.Written.{Written}
use Rattle.da_finish.specs.declared.finish.Written.TheVariants.{Whole, Fault, NoMemory as WantsMemory}
use Rattle.da_outside.specs.Sink.{SinkState}
use Rattle.da_outside.specs.declared.faults.Failed.{Failed}
use Rattle.da_play.specs.declared.input.Entry.{Entry}
use Rattle.da_script.specs.Events.{event_line}
use Rattle.da_stream.specs.Output.{WrittenFront, WrittenWhole}

-- ---- the end

-- Full exactly where the history is full and its goal isn't met, and Done exactly elsewhere
abbrev pub TellsEnd : Bool → Status → Type 0
TellsEnd full Full = full ≡ true
TellsEnd full Done = full ≡ false
TellsEnd full _ = ⊥

-- ---- the print, piece by piece

-- the line of an entry, with its LF
abbrev pub entry_line : Entry → Bytes
entry_line e = event_line e.moment e.input ++ 10 ∷ []

-- a front of the text was written, and the rest is left; or the sink failed
abbrev pub WritesAhead : Bytes → Bytes → SinkState → SinkState → Result (Unit {0}) Failed → Type 0
WritesAhead text rest before after (Ok done) = (front : Bytes) × (text ≡ front ++ rest) × WrittenWhole front before after
WritesAhead text rest before after (Err failed) = WrittenFront text before after

-- by the end of the write
abbrev pub WritesScript : Bytes → SinkState → SinkState → Written → Type 0
WritesScript text before after Whole = WrittenWhole text before after
WritesScript text before after Fault = WrittenFront text before after
WritesScript text before after WantsMemory = WrittenPart text before after
