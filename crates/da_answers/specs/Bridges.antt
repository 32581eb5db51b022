-- Bridges: words for the functions that change the tables in place. Only the code cites them.
use Rattle.std.specs.Prelude.{ℕ, Bool, Option, option_and_then, option_map}
use Rattle.da_keys.specs.Keys.{key_first}
use Rattle.da_keys.specs.declared.key.Key.{Key}
use Rattle.da_fields.specs.declared.answer.Answer.{Answer}
use Rattle.da_tables.specs.Hits.{hit_for}
use Rattle.da_answers.specs.declared.hits.Hit.{Hit}
use Rattle.da_request.specs.Requests.{question_in, request_stage, with_answer}
use Rattle.da_request.specs.declared.request.Request.{Request}
use Rattle.da_request.specs.declared.stages.Question.{Question}
use Rattle.da_settings.specs.declared.settings.Settings.{Settings}
use Rattle.da_tables.specs.Queries.{used_again}
use Rattle.da_tables.specs.Tables.{with_query, with_request}
use Rattle.da_tables.specs.declared.tables.Tables.{Tables}

abbrev pub hit_with_number : Question → ℕ → Hit
hit_with_number q number = record { question = q; number = number }

-- the hit for what a request asks now
abbrev pub next_hit : Settings → ℕ → Tables → Request → Option Hit
next_hit settings moment tables r =
    option_and_then (λ q. option_map (hit_with_number q) (hit_for settings moment tables r q)) (question_in (request_stage settings r))

-- a hit with what its use found, and its key
abbrev pub with_repeat : ℕ → ℕ → ℕ → Answer → Option Bool → Key → Tables → Tables
with_repeat continued number db answer comparison key tables =
    with_request (with_answer db answer) continued (with_query (used_again comparison) number (record tables { keys = key_first key tables.keys }))
