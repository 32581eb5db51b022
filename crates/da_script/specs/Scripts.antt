-- A script as a text: its events, and the script of a history.
use Rattle.std.specs.Prelude.{◌≤◌, ◌<◌, ◌^◌, List, [], ◌∷◌, ◌++◌, length, Option, Some, None}
use Rattle.std.specs.List.{AllByRecursion}
use Rattle.da_base.specs.Words.{Bytes}
use Rattle.da_tabline.specs.Lines.{LineCut, line_cut}
use Rattle.da_play.specs.declared.input.Entry.{Entry}
use Rattle.da_play.specs.Play.{Event}
use Rattle.da_script.specs.Events.{event_of, event_line, InputIsHeld, IsPlain}

-- a line of a script has at most 16,384 bytes
abbrev pub script_cut : Bytes → LineCut
script_cut bytes = line_cut 16384 bytes

abbrev pub with_event : Option Event → List Event → List Event
with_event None events = []
with_event (Some event) events = event ∷ events

-- the events of lines, up to the first line that is none
abbrev pub events_from : List Bytes → List Event
events_from [] = []
events_from (text ∷ texts) = with_event (event_of text) (events_from texts)

-- the events of a script, up to the first line that is none
abbrev pub events : Bytes → List Event
events bytes = events_from (script_cut bytes).lines

-- ---- the script of a history

-- one event for each entry, at the entry's own moment
abbrev pub script : List Entry → Bytes
script [] = []
script (e ∷ g) = script g ++ (event_line e.moment e.input ++ 10 ∷ [])

-- an entry that the program holds and that a line of a script spells
pub record IsScripted (e : Entry) : Type 0 where
  pub moment : e.moment < 2 ^ 64
  pub held : InputIsHeld e.input
  pub plain : IsPlain e.input
  pub short : length (event_line e.moment e.input) ≤ 16384

abbrev pub AreScripted : List Entry → Type 0
AreScripted h = AllByRecursion IsScripted h
