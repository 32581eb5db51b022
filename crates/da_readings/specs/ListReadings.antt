-- Laws that read what the lines say of requests and answers, in order.
use Rattle.std.specs.Prelude.{◌≡◌, ℕ, Bool, ◌&&◌, not, option_to_list, List, [], ◌∷◌, ◌++◌, Option, Some, None, flat_map, option_and_then, if◌then◌else◌, ◌==◌}
use Rattle.da_base.specs.Words.{Bytes, nth, passes_option, option_or_else}
use Rattle.da_fields.specs.Answers.{Answers}
use Rattle.da_fields.specs.declared.answer.Answer.{Answer}
use Rattle.da_msgs.specs.ClientMessages.{client_message}
use Rattle.da_msgs.specs.declared.client.ClientMsg.{ClientMsg}
use Rattle.da_msgs.specs.declared.client.ClientMsg.TheVariants.{Cont}
use Rattle.da_tables.specs.Hits.{hit_comparison}
use Rattle.da_tables.specs.RecordedAnswers.{answer_under, is_kept, is_lost_in, recorded_answer}
use Rattle.da_play.specs.History.{after_input, before_input, tables_of}
use Rattle.da_play.specs.Legal.{IsLegal}
use Rattle.da_play.specs.declared.input.Entry.{Entry}
use Rattle.da_play.specs.declared.input.Input.{Input}
use Rattle.da_play.specs.declared.input.Input.TheVariants.{Answered, Late, Line}
use Rattle.da_request.specs.Requests.{use_comparison}
use Rattle.da_request.specs.declared.request.Body.{Body}
use Rattle.da_request.specs.declared.request.Body.TheVariants.{Authenticates, LooksUp}
use Rattle.da_request.specs.declared.request.Request.{Request}
use Rattle.da_request.specs.declared.stages.Question.{Question}
use Rattle.da_settings.specs.declared.settings.Settings.{Settings}
use Rattle.da_tables.specs.Queries.{is_running}
use Rattle.da_tables.specs.Tables.{is_client}
use Rattle.da_tables.specs.declared.connections.Connection.{Connection}
use Rattle.da_tables.specs.declared.queries.QueryRow.{QueryRow}

-- ---- the request that an entry continues

abbrev pub continued : Settings → List Entry → Entry → Option ℕ
continued settings g e = (after_input settings e.moment e.input (before_input settings e.moment e.input (tables_of settings g))).continued

-- these, where it is request n that continues
abbrev pub if_continued : {A : Type 0} → Option ℕ → ℕ → List A → List A
if_continued number n xs = if passes_option (λ m. m == n) number then xs else []

-- ---- texts

-- the message of a client that an input spells
abbrev pub message_in : List Connection → Input → Option ClientMsg
message_in connections (Line conn text random) = option_and_then (λ c. if is_client c.kind then client_message text else None) (nth connections conn)
message_in connections _ = None

abbrev pub continued_text : Option ClientMsg → List Bytes
continued_text (Some (Cont id text)) = text ∷ []
continued_text _ = []

-- the texts of the CONT lines that continued request n, in order
abbrev pub texts_read : Settings → List Entry → ℕ → List Bytes
texts_read settings [] n = []
texts_read settings (e ∷ g) n =
    texts_read settings g n ++ if_continued (continued settings g e) n (continued_text (message_in (tables_of settings g).connections e.input))

abbrev pub texts_in : Body → List Bytes
texts_in (Authenticates mech params resp texts) = texts
texts_in (LooksUp grant) = []

-- the texts of a request are those of the CONT lines that continued it, in order
abbrev pub TextsAreRead : Type 0
TextsAreRead = (settings : Settings) (h : List Entry) (n : ℕ) (r : Request) → nth (tables_of settings h).requests n ≡ Some r → texts_in r.body ≡ texts_read settings h n

-- ---- answers

-- the query whose answer an input tells, if it tells one
abbrev pub told_query : Input → Option ℕ
told_query (Answered k answer) = Some k
told_query (Late k) = Some k
told_query _ = None

-- the answer of query k after an entry, where it ran before as a query of request n, and isn't lost
abbrev pub own_answer : List QueryRow → List QueryRow → ℕ → ℕ → Answers
own_answer before after n k =
    if passes_option (λ a. is_running a && (a.request == n)) (nth before k) && not (is_lost_in after k) then answer_under after k else []

-- the answers of the queries of request n that aren't lost and of the hits of the entries that continued it, in order
abbrev pub answers_read : Settings → List Entry → ℕ → Answers
answers_read settings [] n = []
answers_read settings (e ∷ g) n =
    answers_read settings g n
    ++ option_or_else (told_query e.input) [] (own_answer (tables_of settings g).queries (tables_of settings (e ∷ g)).queries n)
    ++ if_continued (continued settings g e) n (flat_map (answer_under (tables_of settings g).queries) e.hits)

-- in a legal history the answers of a request are those of its own queries, but for lost ones, and of its hits, in order
abbrev pub AnswersAreRead : Type 0
AnswersAreRead =
    (settings : Settings) (h : List Entry) → IsLegal settings h → (n : ℕ) (r : Request) → nth (tables_of settings h).requests n ≡ Some r →
    r.answers ≡ answers_read settings h n

-- ---- cacheable answers

-- the query that an input answers, where it ran and its answer may be kept
abbrev pub kept_query : List QueryRow → Input → List ℕ
kept_query queries (Answered k given) =
    option_or_else (nth queries k) [] (λ a. if is_running a && is_kept a.question.kind (recorded_answer a.question.kind given) then (k ∷ []) else [])
kept_query queries _ = []

-- the queries that were answered so, the last first
abbrev pub queries_kept : Settings → List Entry → List ℕ
queries_kept settings [] = []
queries_kept settings (e ∷ g) = kept_query (tables_of settings g).queries e.input ++ queries_kept settings g

-- the cacheable answers are the queries whose answers may be kept, the last first
abbrev pub CacheableAreRead : Type 0
CacheableAreRead = (settings : Settings) (h : List Entry) → (tables_of settings h).cacheable ≡ queries_kept settings h

-- ---- what uses of an answer found

-- the request that an entry continues, with what its input told
abbrev pub continued_request : Settings → List Entry → Entry → Option Request
continued_request settings g e =
    option_and_then (nth (after_input settings e.moment e.input (before_input settings e.moment e.input (tables_of settings g))).tables.requests) (continued settings g e)

abbrev pub use_by : Settings → Option Request → Question → Answer → Option Bool
use_by settings None q answer = None
use_by settings (Some r) q answer = use_comparison settings r q answer

-- what the own use of a query's answer found, if it checked a password
abbrev pub own_use : Settings → List Request → Option QueryRow → List Bool
own_use settings requests None = []
own_use settings requests (Some a) = option_or_else a.answer [] (λ p. option_to_list (use_by settings (nth requests a.request) a.question p.0))

-- the same of query k, where an input tells the answer of query j, which ran before
abbrev pub own_comparisons : Settings → List Request → List QueryRow → List QueryRow → ℕ → ℕ → List Bool
own_comparisons settings requests before after k j = if passes_option is_running (nth before j) && (j == k) then own_use settings requests (nth after j) else []

-- the request with the answers of one hit more
abbrev pub with_one_hit : List QueryRow → Request → ℕ → Request
with_one_hit queries r n = record r { answers = r.answers ++ answer_under queries n }

-- what the request's use of a hit found, if it checked a password
abbrev pub hit_use : Settings → Request → Option QueryRow → List Bool
hit_use settings r None = []
hit_use settings r (Some a) = option_or_else a.answer [] (λ p. option_to_list (hit_comparison settings p.0 (Some r)))

-- what the uses of query k among these hits found, the last first
abbrev pub hit_comparisons : Settings → List QueryRow → Request → List ℕ → ℕ → List Bool
hit_comparisons settings queries r [] k = []
hit_comparisons settings queries r (n ∷ ns) k =
    hit_comparisons settings queries (with_one_hit queries r n) ns k ++ (if n == k then hit_use settings r (nth queries n) else [])

-- what the uses of the answer of query k found, the last first: its own, and those of the hits
abbrev pub uses_read : Settings → List Entry → ℕ → List Bool
uses_read settings [] k = []
uses_read settings (e ∷ g) k =
    option_or_else (continued_request settings g e) [] (λ r. hit_comparisons settings (tables_of settings g).queries r e.hits k)
    ++ (option_or_else (told_query e.input) [] (own_comparisons settings (before_input settings e.moment e.input (tables_of settings g)).requests (tables_of settings g).queries (tables_of settings (e ∷ g)).queries k)
    ++ uses_read settings g k)

-- in a legal history the tests of an answer are those of its own use and of the hits, the last first
abbrev pub ComparisonsAreRead : Type 0
ComparisonsAreRead =
    (settings : Settings) (h : List Entry) → IsLegal settings h → (k : ℕ) (a : QueryRow) → nth (tables_of settings h).queries k ≡ Some a →
    a.comparisons ≡ uses_read settings h k
