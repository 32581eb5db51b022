-- The queries of the server: which wait, which run, and changes of one.
use Rattle.std.specs.Prelude.{ℕ, Bool, ◌&&◌, not, List, [], ◌∷◌, ◌++◌, Option, Some, None, is_some, ◌+◌}
use Rattle.da_base.specs.Words.{nth, passes_option, number_where, numbers_where}
use Rattle.da_fields.specs.declared.answer.Query.{Query}
use Rattle.da_request.specs.Requests.{is_wanted, query_password}
use Rattle.da_request.specs.declared.request.Request.{Request}
use Rattle.da_request.specs.declared.stages.Question.{Question}
use Rattle.da_settings.specs.declared.settings.Settings.{Settings}
use Rattle.da_tables.specs.declared.queries.QueryRow.{QueryRow}
use Rattle.da_tables.specs.declared.tables.Tables.{Tables}

-- it waits until it is taken or its request is cancelled or timed out
abbrev pub is_waiting : Tables → QueryRow → Bool
is_waiting tables a = not (is_some a.taken) && not (is_some a.answer) && passes_option is_wanted (nth tables.requests a.request)

-- it runs from its Take until its answer
abbrev pub is_running : QueryRow → Bool
is_running a = is_some a.taken && not (is_some a.answer)

-- the queries that wait, in order of number
abbrev pub waiting : Tables → List ℕ
waiting tables = numbers_where (is_waiting tables) 1 tables.queries

-- the first query that waits, or 0
abbrev pub first_waiting : Tables → ℕ
first_waiting tables = number_where (is_waiting tables) tables.queries

-- the queries that run, in order of number, which is the order of their Takes
abbrev pub running : Tables → List ℕ
running tables = numbers_where is_running 1 tables.queries

abbrev pub is_running_in : Tables → ℕ → Bool
is_running_in tables query = passes_option is_running (nth tables.queries query)

-- a query as it is handed out
abbrev pub query_with : ℕ → QueryRow → Query
query_with number a = record { number = number; kind = a.question.kind; db = a.question.db; user = a.question.user; password = a.password }

-- the request asks its question by a query with the next number
abbrev pub with_new_query : Settings → ℕ → Request → Question → Tables → Tables
with_new_query settings number r q tables =
    record tables {
      queries = tables.queries ++ record { request = number; question = q; password = query_password settings r q.kind; taken = None; answer = None; comparisons = [] } ∷ [];
    }

abbrev pub with_comparison : Option Bool → List Bool → List Bool
with_comparison None comparisons = comparisons
with_comparison (Some matched) comparisons = matched ∷ comparisons

abbrev pub used_again : Option Bool → QueryRow → QueryRow
used_again comparison a = record a { comparisons = with_comparison comparison a.comparisons }

abbrev pub as_taken : ℕ → QueryRow → QueryRow
as_taken moment a = record a { taken = Some moment }
