-- What is due at a moment, and whether anything comes due as time passes.
use Rattle.std.specs.Prelude.{ℕ, zero, suc, Bool, ◌&&◌, ◌||◌, List, Option, Some, None, nat_le}
use Rattle.std.specs.List.{list_any}
use Rattle.da_base.specs.Words.{later, number_where, passes_option}
use Rattle.da_core.specs.declared.clock.Due.{Due}
use Rattle.da_play.specs.History.{tables_of}
use Rattle.da_play.specs.Legal.{entry_moment}
use Rattle.da_play.specs.Served.{Served}
use Rattle.da_play.specs.declared.input.Entry.{Entry}
use Rattle.da_request.specs.Requests.{has_limit, is_due, is_held, is_over_limit}
use Rattle.da_request.specs.declared.request.Request.{Request}
use Rattle.da_settings.specs.declared.settings.Settings.{Settings}
use Rattle.da_tables.specs.Queries.{is_running}
use Rattle.da_tables.specs.declared.queries.QueryRow.{QueryRow}
use Rattle.da_tables.specs.declared.tables.Tables.{Tables}

-- the query has run as long as it may
abbrev pub is_late : Settings → ℕ → QueryRow → Bool
is_late settings moment a = is_running a && passes_option (λ taken. nat_le (later taken settings.query_limit) moment) a.taken

abbrev pub number_or_none : ℕ → Option ℕ
number_or_none zero = None
number_or_none (suc n) = Some (suc n)

-- the number of the first such query
abbrev pub first_late : Settings → ℕ → List QueryRow → Option ℕ
first_late settings moment queries = number_or_none (number_where (is_late settings moment) queries)

-- an entry of this moment replies to the request, whatever its input: its reply is due, or its limit is reached
abbrev pub is_told : Settings → ℕ → Request → Bool
is_told settings moment r = is_due settings moment r || is_over_limit settings moment r

abbrev pub due_in : Settings → ℕ → Tables → Due
due_in settings moment tables = record { reply = list_any (is_told settings moment) tables.requests; query = first_late settings moment tables.queries }

-- what is due at the moment that an entry would have if it were handed in at m
abbrev pub due_at : Served → ℕ → Due
due_at served m = due_in served.settings (entry_moment served.history m) (tables_of served.settings served.history)

-- time alone replies to the request: its reply is held back, or its limit is still to come
abbrev pub awaits_time : Request → Bool
awaits_time r = is_held r || has_limit r

abbrev pub needs_clock_in : Tables → Bool
needs_clock_in tables = list_any is_running tables.queries || list_any awaits_time tables.requests

-- a query runs, a reply is held back, or a client's request isn't decided
abbrev pub needs_clock : Settings → List Entry → Bool
needs_clock settings h = needs_clock_in (tables_of settings h)
