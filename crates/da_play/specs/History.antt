-- What a history says at its end. The newest entry stands first, so e ∷ g is the history g followed by the entry e.
use Rattle.std.specs.Prelude.{ℕ, Bool, true, false, List, [], ◌∷◌, ◌++◌, Option, Some, None, if◌then◌else◌, ◌≡◌}
use Rattle.da_base.specs.Words.{hex, nth, option_or_else}
use Rattle.da_fields.specs.declared.answer.Answer.{Answer}
use Rattle.da_fields.specs.declared.answer.Answer.TheVariants.{Internal}
use Rattle.da_fields.specs.declared.answer.Why.TheVariants.{Late as WasLate}
use Rattle.da_tables.specs.Hits.{after_hits}
use Rattle.da_tables.specs.RecordedAnswers.{after_answer, kept_in, recorded_answer}
use Rattle.da_lines.specs.Lines.{line_on}
use Rattle.da_play.specs.declared.input.Entry.{Entry}
use Rattle.da_play.specs.declared.input.Input.{Input}
use Rattle.da_play.specs.declared.input.Input.TheVariants.{Answered, Broken, Gone, Late, Line, Opened, Take, Tick}
use Rattle.da_request.specs.Requests.{request_stage, with_decision}
use Rattle.da_request.specs.declared.request.Request.{Request}
use Rattle.da_request.specs.declared.stages.Stage.{Stage}
use Rattle.da_request.specs.declared.stages.Stage.TheVariants.{Asks, Awaits, Decided}
use Rattle.da_settings.specs.declared.settings.Settings.{Settings}
use Rattle.da_tables.specs.Queries.{as_taken, first_waiting, is_running_in, with_new_query}
use Rattle.da_tables.specs.Tables.{AfterInput, at_start, closing, continuing_none, with_due_replied, with_end, with_query, with_request, with_timed_out}
use Rattle.da_tables.specs.declared.queries.QueryRow.{QueryRow}
use Rattle.da_tables.specs.declared.tables.Tables.{Tables}

-- ---- part one: a query is handed out, the limits that are reached time requests out, and the replies that are due are given

-- a Take hands out the first query that waited before its entry, also where the entry times that query's request out
abbrev pub with_handed_out : ℕ → Input → Tables → Tables
with_handed_out moment Take tables = with_query (as_taken moment) (first_waiting tables) tables
with_handed_out moment _ tables = tables

-- the tables in which it is seen which replies are due
abbrev pub before_replies : Settings → ℕ → Input → Tables → Tables
before_replies settings moment input tables = with_timed_out settings moment (with_handed_out moment input tables)

-- the tables in which an input has its own effect
unfoldable pub before_input : Settings → ℕ → Input → Tables → Tables
before_input settings moment input tables = with_due_replied settings moment (before_replies settings moment input tables)

-- ---- part two: the input has its own effect

unfoldable pub after_input : Settings → ℕ → Input → Tables → AfterInput
after_input settings moment (Opened kind random) tables =
    continuing_none (record tables { connections = tables.connections ++ record { kind = kind; cookie = hex random; minor = None; pid = None; is_open = true } ∷ [] })
after_input settings moment (Line conn text random) tables = line_on settings moment conn text random (nth tables.connections conn) tables
after_input settings moment (Broken conn) tables = closing conn tables
after_input settings moment (Gone conn) tables = continuing_none (with_end conn tables)
after_input settings moment Take tables = continuing_none tables
after_input settings moment (Answered query answer) tables = after_answer settings moment query answer (nth tables.queries query) tables
after_input settings moment (Late query) tables = after_answer settings moment query (Internal WasLate) (nth tables.queries query) tables
after_input settings moment Tick tables = continuing_none tables

-- ---- part three: what follows for the request that was continued, after its hits

-- it asks by a query, or is decided, or awaits a message
abbrev pub follows_from : Settings → ℕ → ℕ → Request → Stage → Tables → Tables
follows_from settings moment number r (Awaits text) tables = tables
follows_from settings moment number r (Asks q) tables = with_new_query settings number r q tables
follows_from settings moment number r (Decided d) tables = with_request (with_decision settings moment) number tables

abbrev pub follows_for : Settings → ℕ → ℕ → Option Request → Tables → Tables
follows_for settings moment number None tables = tables
follows_for settings moment number (Some r) tables = follows_from settings moment number r (request_stage settings r) tables

-- by the stage that the request has after its hits
unfoldable pub after_stage : Settings → ℕ → ℕ → Tables → Tables
after_stage settings moment number tables = follows_for settings moment number (nth tables.requests number) tables

abbrev pub after_continued : Settings → ℕ → List ℕ → AfterInput → Tables
after_continued settings moment hits h = option_or_else h.continued h.tables (λ number. after_stage settings moment number (after_hits settings number h.tables hits))

-- ---- last, the answer of the entry is kept, after the hits

abbrev pub kept_for : Settings → ℕ → Answer → Option QueryRow → Tables → Tables
kept_for settings query answer None tables = tables
kept_for settings query answer (Some a) tables = kept_in settings query a.question (recorded_answer a.question.kind answer) tables

abbrev pub keeps : Settings → Tables → Input → Tables → Tables
keeps settings before (Answered query answer) tables = if is_running_in before query then kept_for settings query answer (nth tables.queries query) tables else tables
keeps settings before _ tables = tables

-- whether an input records an answer
abbrev pub is_answer_recorded : Tables → Input → Bool
is_answer_recorded before (Answered query answer) = is_running_in before query
is_answer_recorded before _ = false

-- ---- the tables

-- the tables after one more entry
unfoldable pub after : Settings → Tables → Entry → Tables
after settings tables e =
    let before = before_input settings e.moment e.input tables in
    keeps settings before e.input (after_continued settings e.moment e.hits (after_input settings e.moment e.input before))

-- the tables at the end of a history
abbrev pub tables_of : Settings → List Entry → Tables
tables_of settings [] = at_start
tables_of settings (e ∷ g) = after settings (tables_of settings g) e

-- this input answers this query, or tells that its answer is late
abbrev pub Tells : Input → ℕ → Answer → Type 0
Tells (Answered n answer) query given = (n ≡ query) × (answer ≡ given)
Tells (Late n) query given = (n ≡ query) × (Internal WasLate ≡ given)
Tells _ query given = ⊥
