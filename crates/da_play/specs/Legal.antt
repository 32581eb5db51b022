-- Which histories are the server's, and when a run ends.
use Rattle.std.specs.Prelude.{◌≡◌, ◌≤◌, ℕ, ◌+◌, max, Bool, true, ◌&&◌, ◌||◌, not, List, [], ◌∷◌, length, sum_by, Option, Some, None, option_and_then, option_map, nat_le, nat_lt, IsTrue, IsFalse}
use Rattle.std.specs.List.{list_any}
use Rattle.da_base.specs.Words.{later, nth, passes_option, count_where}
use Rattle.da_fields.specs.FieldList.{Pairs}
use Rattle.da_fields.specs.declared.answer.Answer.{Answer}
use Rattle.da_fields.specs.declared.answer.Answer.TheVariants.{Found, Passed}
use Rattle.da_tables.specs.Hits.{AreHits}
use Rattle.da_play.specs.Effects.{entry_lines}
use Rattle.da_play.specs.History.{after_input, before_input, tables_of}
use Rattle.da_play.specs.declared.input.Entry.{Entry}
use Rattle.da_play.specs.declared.input.Input.{Input}
use Rattle.da_play.specs.declared.input.Input.TheVariants.{Answered, Broken, Gone, Late, Line, Opened, Take, Tick}
use Rattle.da_request.specs.declared.request.Request.{Request}
use Rattle.da_settings.specs.declared.settings.Goal.{Goal}
use Rattle.da_settings.specs.declared.settings.Settings.{Settings}
use Rattle.da_tables.specs.Connections.{open_count}
use Rattle.da_tables.specs.Queries.{first_waiting, is_running_in}
use Rattle.da_tables.specs.Tables.{is_client, is_open_in}
use Rattle.da_tables.specs.declared.connections.Connection.{Connection}
use Rattle.da_tables.specs.declared.tables.Tables.{Tables}

-- ---- ends of a run

abbrev pub pairs_size : Pairs → ℕ
pairs_size = sum_by (λ p. length p.0 + length p.1)

abbrev pub answer_size : Answer → ℕ
answer_size (Found stored fields) = length stored + pairs_size fields
answer_size (Passed fields) = pairs_size fields
answer_size _ = 0

-- the bytes of an input's texts
abbrev pub input_size : Input → ℕ
input_size (Line conn text random) = length text
input_size (Answered query answer) = answer_size answer
input_size _ = 0

-- 64 for each entry, the bytes of its texts, and those of the lines that it emitted, without their LF
abbrev pub size : Settings → List Entry → ℕ
size settings [] = 0
size settings (e ∷ g) = size settings g + 64 + input_size e.input + sum_by (λ l. length l.1) (entry_lines settings e g)

-- it has as many entries or bytes as it may have
abbrev pub is_full : Settings → List Entry → Bool
is_full settings h = nat_le settings.history_entries (length h) || nat_le settings.history_bytes (size settings h)

-- so many connections of each kind were opened, and none is open
abbrev pub has_met : Goal → List Connection → Bool
has_met goal connections =
    nat_le goal.clients (count_where (λ c. is_client c.kind) connections)
    && nat_le goal.masters (count_where (λ c. not (is_client c.kind)) connections)
    && not (list_any (λ c. c.is_open) connections)

-- a goal was given, and is met
abbrev pub is_over : Settings → Option Goal → List Entry → Bool
is_over settings goal h = passes_option (λ g. has_met g (tables_of settings h).connections) goal

-- ---- moments

abbrev pub last_moment : List Entry → ℕ
last_moment [] = 0
last_moment (e ∷ g) = e.moment

-- the moment of an entry that is handed in at m: moments never fall
abbrev pub entry_moment : List Entry → ℕ → ℕ
entry_moment h m = max m (last_moment h)

-- ---- legal histories

-- the moment from which a query is late
abbrev pub late_from : Settings → Tables → ℕ → Option ℕ
late_from settings tables query = option_and_then (λ a. option_map (λ taken. later taken settings.query_limit) a.taken) (nth tables.queries query)

-- whether an input may be an entry after this state, at this moment
abbrev pub is_allowed : Settings → Tables → ℕ → Input → Bool
is_allowed settings tables moment (Opened kind random) = nat_lt (open_count tables) settings.connections
is_allowed settings tables moment (Line conn text random) = is_open_in tables conn
is_allowed settings tables moment (Broken conn) = is_open_in tables conn
is_allowed settings tables moment (Gone conn) = is_open_in tables conn
is_allowed settings tables moment Take = nat_lt 0 (first_waiting tables)
is_allowed settings tables moment (Answered query answer) = is_running_in tables query
is_allowed settings tables moment (Late query) = is_running_in tables query && passes_option (λ late. nat_le late moment) (late_from settings tables query)
is_allowed settings tables moment Tick = true

-- an entry that continues no request has no hits
abbrev pub ContinuedHits : Settings → ℕ → Tables → Option Request → List ℕ → Type 0
ContinuedHits settings moment tables None ns = ns ≡ []
ContinuedHits settings moment tables (Some r) ns = AreHits settings moment tables r ns

-- these are the hits of an entry after a history: those of the request that its input moves
abbrev pub EntryHits : Settings → List Entry → ℕ → Input → List ℕ → Type 0
EntryHits settings g moment input ns =
    let h = after_input settings moment input (before_input settings moment input (tables_of settings g)) in
    ContinuedHits settings moment (tables_of settings g) (option_and_then (nth h.tables.requests) h.continued) ns

-- the entry may follow this history
pub record IsNext (settings : Settings) (g : List Entry) (e : Entry) : Type 0 where
  pub later_or_same : last_moment g ≤ e.moment
  pub has_room : IsFalse (is_full settings g)
  pub is_allowed : IsTrue (is_allowed settings (tables_of settings g) e.moment e.input)
  pub hits : EntryHits settings g e.moment e.input e.hits

-- each entry may follow those before it
abbrev pub IsLegal : Settings → List Entry → Type 0
IsLegal settings [] = Unit {0}
IsLegal settings (e ∷ g) = IsLegal settings g × IsNext settings g e
