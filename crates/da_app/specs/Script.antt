-- A script as a text: its lines that are right, its first event that meets a full history, and its output.
use Rattle.std.specs.Prelude.{ℕ, suc, Bool, List, [], ◌∷◌, Option, Some, None, if◌then◌else◌, is_some}
use Rattle.da_base.specs.Words.{Bytes}
use Rattle.da_settings.specs.declared.settings.Settings.{Settings}
use Rattle.da_play.specs.declared.input.Entry.{Entry}
use Rattle.da_play.specs.Legal.{is_full}
use Rattle.da_play.specs.Play.{Event, history_after, play}
use Rattle.da_script.specs.Events.{event_of}
use Rattle.da_script.specs.Scripts.{events}
use Rattle.da_script.specs.Replies.{replies_text}

-- a line that is right spells an event
abbrev pub is_event : Bytes → Bool
is_event text = is_some (event_of text)

-- the number of the first event that meets a full history, where the first of these events has the number n and comes
-- after this history
abbrev pub full_from : Settings → List Entry → ℕ → List Event → Option ℕ
full_from settings h n [] = None
full_from settings h n (event ∷ events) =
    if is_full settings h then Some n else full_from settings (history_after settings h event.0 event.1) (suc n) events

-- the number of the first line that is an event and meets a full history, where no line before it is off the grammar
abbrev pub first_full : Settings → Bytes → Option ℕ
first_full settings bytes = full_from settings [] 1 (events bytes)

-- the printed replies of the server to events
abbrev pub output_of : Settings → List Event → Bytes
output_of settings events = replies_text 1 (play settings [] events)

-- what is written for a script: the printed replies to its events, up to the first line that is none
abbrev pub output : Settings → Bytes → Bytes
output settings bytes = output_of settings (events bytes)
