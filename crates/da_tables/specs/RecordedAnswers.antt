-- What is recorded of an answer, and what of it is kept.
use Rattle.std.specs.Prelude.{ℕ, Bool, true, false, ◌&&◌, List, [], ◌∷◌, Option, Some, None, if◌then◌else◌, ◌==◌}
use Rattle.da_base.specs.Words.{nth, number_where, passes_option, option_or_else}
use Rattle.da_fields.specs.Answers.{fits, Answers}
use Rattle.da_keys.specs.Keys.{with_key}
use Rattle.da_keys.specs.declared.key.Key.{Key}
use Rattle.da_fields.specs.declared.answer.Answer.{Answer}
use Rattle.da_fields.specs.declared.answer.Answer.TheVariants.{Found, Unknown, Internal}
use Rattle.da_fields.specs.declared.answer.Why.TheVariants.{Died, Malformed}
use Rattle.da_fields.specs.declared.answer.QueryKind.{QueryKind}
use Rattle.da_fields.specs.declared.answer.QueryKind.TheVariants.{Check}
use Rattle.da_request.specs.Requests.{is_undecided, use_comparison, with_answer, with_late_answer}
use Rattle.da_request.specs.declared.request.Request.{Request}
use Rattle.da_request.specs.declared.stages.Question.{Question}
use Rattle.da_settings.specs.declared.settings.Settings.{Settings}
use Rattle.da_tables.specs.Queries.{is_running, with_comparison}
use Rattle.da_tables.specs.Tables.{AfterInput, continuing, continuing_none, with_query, with_request}
use Rattle.da_tables.specs.declared.queries.QueryRow.{QueryRow}
use Rattle.da_tables.specs.declared.tables.Tables.{Tables}

-- ---- what is recorded of an answer

-- an answer that doesn't fit its query is recorded as malformed
abbrev pub recorded_answer : QueryKind → Answer → Answer
recorded_answer kind answer = if fits kind answer then answer else Internal Malformed

abbrev pub is_kept_kind : QueryKind → Bool
is_kept_kind Check = false
is_kept_kind _ = true

-- the cache looks at stored passwords and users' fields, found or not
abbrev pub is_kept : QueryKind → Answer → Bool
is_kept kind (Found stored fields) = is_kept_kind kind
is_kept kind Unknown = is_kept_kind kind
is_kept kind _ = false

-- how long an answer may be repeated
abbrev pub ttl_of : Settings → Answer → ℕ
ttl_of settings (Found stored fields) = settings.cache_ttl
ttl_of settings Unknown = settings.cache_negative_ttl
ttl_of settings _ = 0

abbrev pub key_of : Question → Key
key_of q = record { kind = q.kind; db = q.db; user = q.user }

abbrev pub compared_by : Settings → Option Request → Question → Answer → List Bool → List Bool
compared_by settings None q answer comparisons = comparisons
compared_by settings (Some r) q answer comparisons = with_comparison (use_comparison settings r q answer) comparisons

-- the answer stands with its query, and so does what its own use found
abbrev pub answered_by : Settings → ℕ → Option Request → Answer → QueryRow → QueryRow
answered_by settings moment r answer a =
    record a { answer = Some (answer, moment); comparisons = compared_by settings r a.question answer a.comparisons }

-- ---- answers that are lost

-- the worker that was to answer has died
abbrev pub is_death : Answer → Bool
is_death (Internal Died) = true
is_death _ = false

-- two queries of one request to one database
abbrev pub asks_same : QueryRow → QueryRow → Bool
asks_same a b = (b.request == a.request) && (b.question.db == a.question.db)

-- a query that is answered so is lost, with its worker: it is the first that its request asked this database, and it checks
-- no password by a program
abbrev pub is_lost : List QueryRow → ℕ → QueryRow → Answer → Bool
is_lost queries number a answer = is_death answer && is_kept_kind a.question.kind && (number_where (asks_same a) queries == number)

-- the query of this number has an answer, and is lost
abbrev pub is_lost_in : List QueryRow → ℕ → Bool
is_lost_in queries number = passes_option (λ a. passes_option (λ p. is_lost queries number a p.0) a.answer) (nth queries number)

-- ---- what an answer does

-- the request of a lost query continues with the answers that it has, where it is undecided, and so asks once more
abbrev pub asks_again : ℕ → Tables → AfterInput
asks_again number tables = if passes_option is_undecided (nth tables.requests number) then continuing number tables else continuing_none tables

-- the answer to its query continues a request, unless it was cancelled or timed out before
abbrev pub answers_request : ℕ → Question → Answer → Tables → AfterInput
answers_request number q answer tables =
    if passes_option is_undecided (nth tables.requests number)
    then continuing number (with_request (with_answer q.db answer) number tables)
    else continuing_none (with_request (with_late_answer q.db answer) number tables)

-- the answer stands with its query; one that is lost isn't the request's
abbrev pub after_answer_for : Settings → ℕ → ℕ → QueryRow → Answer → Tables → AfterInput
after_answer_for settings moment number a answer tables =
    let answered = with_query (answered_by settings moment (nth tables.requests a.request) answer) number tables in
    if is_lost tables.queries number a answer then asks_again a.request answered else answers_request a.request a.question answer answered

-- the answer to a running query is recorded
abbrev pub after_answer : Settings → ℕ → ℕ → Answer → Option QueryRow → Tables → AfterInput
after_answer settings moment number answer None tables = continuing_none tables
after_answer settings moment number answer (Some a) tables =
    if is_running a then after_answer_for settings moment number a (recorded_answer a.question.kind answer) tables else continuing_none tables

-- ---- what is kept of it

abbrev pub kept_in : Settings → ℕ → Question → Answer → Tables → Tables
kept_in settings number q answer tables =
    if is_kept q.kind answer
    then record tables { cacheable = number ∷ tables.cacheable; keys = with_key settings.cache_size (ttl_of settings answer) (key_of q) tables.keys }
    else tables

-- the answer of query k, under its database
abbrev pub answer_under : List QueryRow → ℕ → Answers
answer_under queries k = option_or_else (nth queries k) [] (λ a. option_or_else a.answer [] (λ p. (a.question.db, p.0) ∷ []))
