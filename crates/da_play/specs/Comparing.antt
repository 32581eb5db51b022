-- The password check of an entry.
use Rattle.std.specs.Prelude.{ℕ, zero, suc, ◌-◌, ◌&&◌, not, List, Option, Some, None, option_and_then, if◌then◌else◌, nat_le, ◌==◌, is_none}
use Rattle.da_base.specs.Words.{Bytes, nth, passes_option}
use Rattle.da_keys.specs.Keys.{has_key}
use Rattle.da_passdb.specs.Outcomes.{password_compared}
use Rattle.da_schemes.specs.Stored.{StoredPassword}
use Rattle.da_fields.specs.declared.answer.Answer.{Answer}
use Rattle.da_tables.specs.Hits.{database_count, hit_for, newest, with_hit}
use Rattle.da_tables.specs.RecordedAnswers.{key_of, recorded_answer, ttl_of}
use Rattle.da_play.specs.History.{after_input, before_input, tables_of}
use Rattle.da_play.specs.Legal.{entry_moment}
use Rattle.da_play.specs.Play.{refusal}
use Rattle.da_play.specs.declared.input.Entry.{Entry}
use Rattle.da_play.specs.declared.input.Input.{Input}
use Rattle.da_play.specs.declared.input.Input.TheVariants.{Answered}
use Rattle.da_request.specs.Requests.{is_authentication, is_undecided, login_of, question_in, request_stage}
use Rattle.da_request.specs.declared.request.Request.{Request}
use Rattle.da_request.specs.declared.stages.Question.{Question}
use Rattle.da_settings.specs.declared.settings.Settings.{Settings}
use Rattle.da_tables.specs.Queries.{is_running}
use Rattle.da_tables.specs.Tables.{AfterInput}
use Rattle.da_tables.specs.declared.queries.QueryRow.{QueryRow}
use Rattle.da_tables.specs.declared.tables.Tables.{Tables}

-- a stored password, and the plaintext that is compared with it
abbrev pub Compared : Type 0
Compared = StoredPassword × Bytes

-- what a request's use of an answer compares
abbrev pub use_compares : Settings → Request → Question → Answer → Option Compared
use_compares settings r q answer =
    if is_authentication r.body
    then option_and_then (λ login. option_and_then (λ db. password_compared db login q.checked answer) (nth settings.passdb q.db)) (login_of settings r)
    else None

-- the answer, where it is within its ttl
abbrev pub within_ttl : Settings → ℕ → Answer × ℕ → Option Answer
within_ttl settings moment p = if not (ttl_of settings p.0 == 0) && nat_le (moment - p.1) (ttl_of settings p.0) then Some p.0 else None

abbrev pub within_ttl_in : Settings → ℕ → Option QueryRow → Option Answer
within_ttl_in settings moment None = None
within_ttl_in settings moment (Some a) = option_and_then (within_ttl settings moment) a.answer

-- the newest answer to a question whose key is in the cache, within its ttl
abbrev pub known_answer : Settings → ℕ → Tables → Question → Option Answer
known_answer settings moment tables q =
    if has_key (key_of q) tables.keys then within_ttl_in settings moment (option_and_then (nth tables.queries) (newest tables (key_of q))) else None

abbrev pub first_of_two : {A : Type 0} → Option A → Option A → Option A
first_of_two (Some x) other = Some x
first_of_two None other = other

-- the first comparison among the questions from here on, each answered by a hit before the next
abbrev pub compares_from : ℕ → Settings → ℕ → Tables → Request → Option Compared
compares_from zero settings moment tables r = None
compares_from (suc databases) settings moment tables r =
    option_and_then (λ q. first_of_two
    (option_and_then (use_compares settings r q) (known_answer settings moment tables q))
    (option_and_then (λ number. compares_from databases settings moment tables (with_hit tables q number r)) (hit_for settings moment tables r q)))
    (question_in (request_stage settings r))

-- what is compared for the answer that is recorded
abbrev pub recorded_compares : Settings → Tables → Answer → Option QueryRow → Option Compared
recorded_compares settings tables answer None = None
recorded_compares settings tables answer (Some a) =
    if is_running a && passes_option is_undecided (nth tables.requests a.request)
    then option_and_then (λ r. use_compares settings r a.question (recorded_answer a.question.kind answer)) (nth tables.requests a.request)
    else None

abbrev pub own_compares : Settings → Tables → Input → Option Compared
own_compares settings tables (Answered query answer) = recorded_compares settings tables answer (nth tables.queries query)
own_compares settings tables _ = None

abbrev pub compares_after : Settings → ℕ → Tables → AfterInput → Option Compared
compares_after settings moment tables h =
    option_and_then (compares_from (database_count settings) settings moment tables) (option_and_then (nth h.tables.requests) h.continued)

-- what an entry compares: of the answer that it records, else of the newest answers that its continued request asks for
unfoldable pub entry_compares : Settings → List Entry → ℕ → Input → Option Compared
entry_compares settings g moment input =
    let before = before_input settings moment input (tables_of settings g) in
    first_of_two (own_compares settings before input) (compares_after settings moment (tables_of settings g) (after_input settings moment input before))

-- what the entry compares that an input handed in at m would make, where it isn't refused
unfoldable pub hint : Settings → List Entry → ℕ → Input → Option Compared
hint settings h m input =
    if is_none (refusal settings h (entry_moment h m) input) then entry_compares settings h (entry_moment h m) input else None
