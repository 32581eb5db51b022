-- Hits: which answers are repeated.
use Rattle.std.specs.Prelude.{◌≡◌, ◌<◌, ◌≤◌, ℕ, zero, suc, ◌+◌, ◌-◌, Bool, true, false, ◌&&◌, not, List, [], ◌∷◌, length, Option, Some, None, option_map, option_and_then, if◌then◌else◌, nat_le, ◌==◌}
use Rattle.da_base.specs.Words.{nth, passes_option, option_or_else}
use Rattle.da_keys.specs.Keys.{same_key, has_key, key_first}
use Rattle.da_keys.specs.declared.key.Key.{Key}
use Rattle.da_fields.specs.declared.answer.Answer.{Answer}
use Rattle.da_tables.specs.RecordedAnswers.{key_of, ttl_of}
use Rattle.da_request.specs.Requests.{question_in, request_stage, use_comparison, with_answer}
use Rattle.da_request.specs.declared.request.Request.{Request}
use Rattle.da_request.specs.declared.stages.Question.{Question}
use Rattle.da_settings.specs.declared.settings.Settings.{Settings}
use Rattle.da_tables.specs.Queries.{used_again}
use Rattle.da_tables.specs.Tables.{with_query, with_request}
use Rattle.da_tables.specs.declared.queries.QueryRow.{QueryRow}
use Rattle.da_tables.specs.declared.tables.Tables.{Tables}

-- ---- the newest answer to a key

-- the first of these queries with this key
abbrev pub newest_among : Tables → Key → List ℕ → Option ℕ
newest_among tables k [] = None
newest_among tables k (n ∷ ns) = if passes_option (λ a. same_key k (key_of a.question)) (nth tables.queries n) then Some n else newest_among tables k ns

-- the query with this key whose answer was recorded last
abbrev pub newest : Tables → Key → Option ℕ
newest tables k = newest_among tables k tables.cacheable

-- ---- when it may be repeated

-- the last use that checked a password didn't match
abbrev pub last_failed : List Bool → Bool
last_failed [] = false
last_failed (matched ∷ comparisons) = not matched

-- a use that doesn't match is made only after a use that didn't match
abbrev pub may_use : Option Bool → List Bool → Bool
may_use (Some false) comparisons = last_failed comparisons
may_use _ comparisons = true

-- what makes an answer usable for what a request asks: its key is in the cache, no newer answer has this key, it is within
-- its ttl, and a password that it doesn't match didn't match at the last use either
pub record IsUsable (settings : Settings) (moment : ℕ) (tables : Tables) (r : Request) (q : Question) (number : ℕ) : Type 0 where
  pub is_cached : has_key (key_of q) tables.keys ≡ true
  pub is_newest : newest tables (key_of q) ≡ Some number
  pub query : QueryRow
  pub is_there : nth tables.queries number ≡ Some query
  pub answer : Answer
  pub recorded : ℕ
  pub is_answer_recorded : query.answer ≡ Some (answer, recorded)
  pub has_ttl : 0 < ttl_of settings answer
  pub in_time : moment - recorded ≤ ttl_of settings answer
  pub may : may_use (use_comparison settings r q answer) query.comparisons ≡ true

-- ---- the same, computed

abbrev pub is_usable_answer : Settings → ℕ → Request → Question → QueryRow → Answer × ℕ → Bool
is_usable_answer settings moment r q a p =
    not (ttl_of settings p.0 == 0) && nat_le (moment - p.1) (ttl_of settings p.0) && may_use (use_comparison settings r q p.0) a.comparisons

unfoldable pub is_usable : Settings → ℕ → Tables → Request → Question → ℕ → Bool
is_usable settings moment tables r q number =
    passes_option (λ a. passes_option (is_usable_answer settings moment r q a) a.answer) (nth tables.queries number)

-- the hit for a question, if there is one
abbrev pub hit_for : Settings → ℕ → Tables → Request → Question → Option ℕ
hit_for settings moment tables r q =
    option_and_then (λ number. if has_key (key_of q) tables.keys && is_usable settings moment tables r q number then Some number else None) (newest tables (key_of q))

-- ---- the hits of a request

abbrev pub answer_of : Tables → ℕ → Option Answer
answer_of tables number = option_and_then (λ a. option_map (λ p. p.0) a.answer) (nth tables.queries number)

-- the request once it has this hit
abbrev pub with_hit : Tables → Question → ℕ → Request → Request
with_hit tables q number r = option_or_else (answer_of tables number) r (λ answer. with_answer q.db answer r)

-- no answer is usable for what the request asks now
abbrev pub HasNoHit : Settings → ℕ → Tables → Request → Type 0
HasNoHit settings moment tables r =
    (q : Question) → question_in (request_stage settings r) ≡ Some q → (number : ℕ) → IsUsable settings moment tables r q number → ⊥

-- each number is a usable answer to what the request asks after those before it, and after all of them there is none
abbrev pub AreHits : Settings → ℕ → Tables → Request → List ℕ → Type 0
AreHits settings moment tables r [] = HasNoHit settings moment tables r
AreHits settings moment tables r (n ∷ ns) =
    (q : Question) × (question_in (request_stage settings r) ≡ Some q) × IsUsable settings moment tables r q n
    × AreHits settings moment tables (with_hit tables q n r) ns

-- the hits for a request, over at most so many databases
abbrev pub hits_from : ℕ → Settings → ℕ → Tables → Request → List ℕ
hits_from zero settings moment tables r = []
hits_from (suc databases) settings moment tables r =
    option_or_else (question_in (request_stage settings r)) [] (λ q.
    option_or_else (hit_for settings moment tables r q) [] (λ number.
    number ∷ hits_from databases settings moment tables (with_hit tables q number r)))

-- there are at most as many hits as databases
abbrev pub database_count : Settings → ℕ
database_count settings = length settings.passdb + length settings.userdb

-- ---- what a hit does to the tables

abbrev pub hit_comparison : Settings → Answer → Option Request → Option Bool
hit_comparison settings answer None = None
hit_comparison settings answer (Some r) = option_and_then (λ q. use_comparison settings r q answer) (question_in (request_stage settings r))

-- a hit repeats an answer for the request, and brings its key first
abbrev pub hit_with : Settings → ℕ → ℕ → QueryRow → Answer → Tables → Tables
hit_with settings continued number a answer tables =
    with_request (with_answer a.question.db answer) continued
    (with_query (used_again (hit_comparison settings answer (nth tables.requests continued))) number (record tables { keys = key_first (key_of a.question) tables.keys }))

abbrev pub hit_on : Settings → ℕ → ℕ → Option QueryRow → Tables → Tables
hit_on settings continued number None tables = tables
hit_on settings continued number (Some a) tables = option_or_else a.answer tables (λ p. hit_with settings continued number a p.0 tables)

abbrev pub after_hit : Settings → ℕ → Tables → ℕ → Tables
after_hit settings continued tables number = hit_on settings continued number (nth tables.queries number) tables

abbrev pub after_hits : Settings → ℕ → Tables → List ℕ → Tables
after_hits settings continued tables [] = tables
after_hits settings continued tables (n ∷ ns) = after_hits settings continued (after_hit settings continued tables n) ns
