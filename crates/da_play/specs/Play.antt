-- A play of events: the replies of the server, one after another.
use Rattle.std.specs.Prelude.{ℕ, suc, Bool, List, [], ◌∷◌, length, Option, Some, None, option_map, option_and_then, Result, Ok, Err, if◌then◌else◌, nat_le, nat_lt, map, reverse}
use Rattle.da_base.specs.Words.{nth, option_or_else}
use Rattle.da_tables.specs.Hits.{database_count, hits_from}
use Rattle.da_play.specs.Effects.{due_lines, effects, own_lines}
use Rattle.da_play.specs.History.{after, after_input, before_input, tables_of}
use Rattle.da_play.specs.Legal.{entry_moment, is_full, late_from}
use Rattle.da_play.specs.declared.effects.Effects.{Effects}
use Rattle.da_play.specs.declared.input.Entry.{Entry}
use Rattle.da_play.specs.declared.input.Input.{Input}
use Rattle.da_play.specs.declared.input.Input.TheVariants.{Answered, Broken, Gone, Late, Line, Opened, Take, Tick}
use Rattle.da_play.specs.declared.outputs.Outputs.{Outputs}
use Rattle.da_play.specs.declared.outputs.Refused.{Refused}
use Rattle.da_play.specs.declared.outputs.Refused.TheVariants.{ConnLimit, HistoryFull, NoConn, NotLate, NotTaken, NothingWaits}
use Rattle.da_settings.specs.declared.settings.Settings.{Settings}
use Rattle.da_tables.specs.Connections.{open_count}
use Rattle.da_tables.specs.Queries.{first_waiting, is_running_in, query_with}
use Rattle.da_tables.specs.Tables.{AfterInput, is_open_in}
use Rattle.da_tables.specs.declared.tables.Tables.{Tables}

-- ---- refusals

abbrev pub unless : Bool → Refused → Option Refused
unless fine refused = if fine then None else Some refused

abbrev pub late_refusal : ℕ → ℕ → Option ℕ → Option Refused
late_refusal moment query None = None
late_refusal moment query (Some due) = unless (nat_le due moment) (NotLate query due)

abbrev pub input_refusal : Settings → Tables → ℕ → Input → Option Refused
input_refusal settings tables moment (Opened kind random) = unless (nat_lt (open_count tables) settings.connections) (ConnLimit (open_count tables))
input_refusal settings tables moment (Line conn text random) = unless (is_open_in tables conn) (NoConn conn)
input_refusal settings tables moment (Broken conn) = unless (is_open_in tables conn) (NoConn conn)
input_refusal settings tables moment (Gone conn) = unless (is_open_in tables conn) (NoConn conn)
input_refusal settings tables moment Take = unless (nat_lt 0 (first_waiting tables)) NothingWaits
input_refusal settings tables moment (Answered query answer) = unless (is_running_in tables query) (NotTaken query)
input_refusal settings tables moment (Late query) =
    if is_running_in tables query then late_refusal moment query (late_from settings tables query) else Some (NotTaken query)
input_refusal settings tables moment Tick = None

-- the first refusal that applies: a full history comes before all others
unfoldable pub refusal : Settings → List Entry → ℕ → Input → Option Refused
refusal settings h moment input = if is_full settings h then Some HistoryFull else input_refusal settings (tables_of settings h) moment input

-- ---- the entry that an input makes

abbrev pub hits_for : Settings → ℕ → Tables → AfterInput → List ℕ
hits_for settings moment tables h =
    option_or_else (option_and_then (λ number. nth h.tables.requests number) h.continued) [] (hits_from (database_count settings) settings moment tables)

-- the hits of an entry after a history
unfoldable pub hits : Settings → List Entry → ℕ → Input → List ℕ
hits settings g moment input = hits_for settings moment (tables_of settings g) (after_input settings moment input (before_input settings moment input (tables_of settings g)))

-- the entry that an input makes, handed in at m
unfoldable pub next_entry : Settings → List Entry → ℕ → Input → Entry
next_entry settings h m input = record { moment = entry_moment h m; input = input; hits = hits settings h (entry_moment h m) input }

-- ---- replies

abbrev pub outputs_with : Settings → ℕ → List ℕ → Tables → Effects → Outputs
outputs_with settings number hit_numbers final f =
    record {
      entry = number;
      conn = f.opened;
      query = option_and_then (λ n. option_map (query_with n) (nth final.queries n)) f.handed_out;
      hits = hit_numbers;
      due_lines = due_lines settings final f;
      lines = own_lines settings final f;
      closed = f.closed;
    }

-- what the newest entry of a history gives out
unfoldable pub outputs : Settings → List Entry → Entry → Outputs
outputs settings g e = outputs_with settings (suc (length g)) e.hits (after settings (tables_of settings g) e) (effects settings (tables_of settings g) e)

-- the reply to an event, and the history after it
abbrev pub reply : Settings → List Entry → ℕ → Input → Result Outputs Refused
reply settings h m input =
    option_or_else (refusal settings h (entry_moment h m) input) (Ok (outputs settings h (next_entry settings h m input))) (λ r. Err r)

abbrev pub history_after : Settings → List Entry → ℕ → Input → List Entry
history_after settings h m input = option_or_else (refusal settings h (entry_moment h m) input) (next_entry settings h m input ∷ h) (λ r. h)

-- an event: the moment that is handed in, and the input
abbrev pub Event : Type 0
Event = ℕ × Input

-- the replies to events, from a history on
abbrev pub play : Settings → List Entry → List Event → List (Result Outputs Refused)
play settings h [] = []
play settings h (event ∷ events) = reply settings h event.0 event.1 ∷ play settings (history_after settings h event.0 event.1) events

-- the history that events leave
abbrev pub played : Settings → List Entry → List Event → List Entry
played settings h [] = h
played settings h (event ∷ events) = played settings (history_after settings h event.0 event.1) events

abbrev pub event_of : Entry → Event
event_of e = (e.moment, e.input)

-- the events of a history, the oldest first
abbrev pub events_of : List Entry → List Event
events_of h = map event_of (reverse h)
