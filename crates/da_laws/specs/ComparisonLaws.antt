-- Laws on the password check of an entry.
use Rattle.std.specs.Prelude.{◌≡◌, ◌⊎◌, ℕ, List, [], ◌∷◌, ◌++◌, Some, None, if◌then◌else◌, is_none, option_and_then, option_to_list}
use Rattle.da_base.specs.Words.{nth, option_or_else}
use Rattle.da_schemes.specs.Stored.{matches}
use Rattle.da_fields.specs.declared.answer.Answer.{Answer}
use Rattle.da_tables.specs.Hits.{with_hit}
use Rattle.da_tables.specs.RecordedAnswers.{recorded_answer}
use Rattle.da_play.specs.Comparing.{Compared, hint, known_answer, use_compares}
use Rattle.da_play.specs.History.{after_input, before_input, tables_of}
use Rattle.da_play.specs.Legal.{entry_moment}
use Rattle.da_play.specs.Play.{hits, refusal}
use Rattle.da_play.specs.declared.input.Entry.{Entry}
use Rattle.da_play.specs.declared.input.Input.{Input}
use Rattle.da_play.specs.declared.input.Input.TheVariants.{Answered}
use Rattle.da_request.specs.Requests.{is_undecided, question_in, request_stage, use_comparison}
use Rattle.da_request.specs.declared.request.Request.{Request}
use Rattle.da_request.specs.declared.stages.Question.{Question}
use Rattle.da_settings.specs.declared.settings.Settings.{Settings}
use Rattle.da_tables.specs.Queries.{is_running}
use Rattle.da_tables.specs.declared.queries.QueryRow.{QueryRow}
use Rattle.da_tables.specs.declared.tables.Tables.{Tables}

-- the answer that the input records, for the question of its query
pub record IsRecordedAnswer (tables : Tables) (input : Input) (question : Question) (answer : Answer) : Type 0 where
  pub query : ℕ
  pub given : Answer
  pub is_answered : input ≡ Answered query given
  pub row : QueryRow
  pub is_there : nth tables.queries query ≡ Some row
  pub asks : row.question ≡ question
  pub is_answer_recorded : recorded_answer question.kind given ≡ answer

-- a use of an answer compares these two, and finds whether they match: a use of the answer that the input records, or of
-- the newest answer that is known within its ttl
pub record IsCompared (settings : Settings) (moment : ℕ) (tables : Tables) (input : Input) (c : Compared) : Type 0 where
  pub request : Request
  pub question : Question
  pub answer : Answer
  pub is_compared : use_compares settings request question answer ≡ Some c
  pub is_comparison : use_comparison settings request question answer ≡ Some (matches c.0 c.1)
  pub is_known : IsRecordedAnswer tables input question answer ⊎ (known_answer settings moment tables question ≡ Some answer)

-- what a use compares is what it tests
abbrev pub ComparisonsAreOfPasswords : Type 0
ComparisonsAreOfPasswords =
    (settings : Settings) (r : Request) (q : Question) (answer : Answer) (c : Compared) → use_compares settings r q answer ≡ Some c →
    use_comparison settings r q answer ≡ Some (matches c.0 c.1)

-- what a hint names is compared by the entry that it is for, which isn't refused
abbrev pub HintsAreCompared : Type 0
HintsAreCompared =
    (settings : Settings) (h : List Entry) (m : ℕ) (input : Input) (c : Compared) → hint settings h m input ≡ Some c →
    (refusal settings h (entry_moment h m) input ≡ None) × IsCompared settings (entry_moment h m) (tables_of settings h) input c

-- ---- all that an entry compares, in order

-- the use of the recorded answer: for the request of its query, which is undecided, while the query runs
abbrev pub recorded_uses : Settings → Tables → Input → List Compared
recorded_uses settings before (Answered query given) =
    option_or_else (nth before.queries query) [] (λ row.
    option_or_else (nth before.requests row.request) [] (λ r.
    if is_running row then (if is_undecided r then option_to_list (use_compares settings r row.question (recorded_answer row.question.kind given)) else []) else []))
recorded_uses settings before _ = []

-- the use of the newest known answer to what the request asks now
abbrev pub known_uses : Settings → ℕ → Tables → Request → List Compared
known_uses settings moment tables r =
    option_to_list (option_and_then (λ q. option_and_then (use_compares settings r q) (known_answer settings moment tables q)) (question_in (request_stage settings r)))

-- the request after one hit more, which answers what it asks now
abbrev pub after_hit : Settings → Tables → Request → ℕ → Request
after_hit settings tables r number = option_or_else (question_in (request_stage settings r)) r (λ q. with_hit tables q number r)

-- the uses of known answers as the request goes on from hit to hit
abbrev pub uses_in_turn : Settings → ℕ → Tables → Request → List ℕ → List Compared
uses_in_turn settings moment tables r [] = known_uses settings moment tables r
uses_in_turn settings moment tables r (number ∷ numbers) =
    known_uses settings moment tables r ++ uses_in_turn settings moment tables (after_hit settings tables r number) numbers

-- those of an entry: of the answer that it records, then of known answers for the request that it continues, along the
-- entry's own hits
abbrev pub entry_uses : Settings → List Entry → ℕ → Input → List Compared
entry_uses settings g moment input =
    let before = before_input settings moment input (tables_of settings g) in
    let there = after_input settings moment input before in
    recorded_uses settings before input
    ++ option_or_else (option_and_then (nth there.tables.requests) there.continued) [] (λ r.
    uses_in_turn settings moment (tables_of settings g) r (hits settings g moment input))

-- a hint is there exactly where the entry isn't refused and compares something, and names what it compares first
abbrev pub HintsAreTheFirst : Type 0
HintsAreTheFirst =
    (settings : Settings) (h : List Entry) (m : ℕ) (input : Input) →
    hint settings h m input ≡ (if is_none (refusal settings h (entry_moment h m) input) then nth (entry_uses settings h (entry_moment h m) input) 1 else None)
