-- Laws on queries and their answers.
use Rattle.std.specs.Prelude.{◌≡◌, ◌≤◌, ℕ, false, List, Some, None, ◌==◌}
use Rattle.da_base.specs.Words.{nth, count_where}
use Rattle.da_play.specs.History.{tables_of}
use Rattle.da_play.specs.Legal.{IsLegal}
use Rattle.da_play.specs.declared.input.Entry.{Entry}
use Rattle.da_request.specs.Requests.{question_in, request_stage}
use Rattle.da_request.specs.declared.request.Request.{Request}
use Rattle.da_settings.specs.declared.settings.Settings.{Settings}
use Rattle.da_tables.specs.declared.queries.QueryRow.{QueryRow}

-- query number k is what its request asks, which isn't decided unless it was timed out, and no other query of this request
-- has no answer
pub record IsAsked (settings : Settings) (requests : List Request) (queries : List QueryRow) (k : ℕ) (a : QueryRow) : Type 0 where
  pub request : Request
  pub is_there : nth requests a.request ≡ Some request
  pub is_not_decided : request.is_timed_out ≡ false → request.decided ≡ None
  pub is_not_replied : request.is_timed_out ≡ false → request.replied ≡ None
  pub asks : question_in (request_stage settings request) ≡ Some a.question
  pub is_only : (m : ℕ) (b : QueryRow) → nth queries m ≡ Some b → b.answer ≡ None → b.request ≡ a.request → m ≡ k

-- a query without an answer is what its request asks, and that request is undecided, or was cancelled or timed out before
abbrev pub OpenQueriesAreAsked : Type 0
OpenQueriesAreAsked =
    (settings : Settings) (h : List Entry) (k : ℕ) (a : QueryRow) → nth (tables_of settings h).queries k ≡ Some a → a.answer ≡ None →
    IsAsked settings (tables_of settings h).requests (tables_of settings h).queries k a

-- in a legal history the answers of a request are those of distinct databases
abbrev pub AnswersAreDistinct : Type 0
AnswersAreDistinct =
    (settings : Settings) (h : List Entry) → IsLegal settings h → (n : ℕ) (r : Request) → nth (tables_of settings h).requests n ≡ Some r →
    (db : ℕ) → count_where (λ p. p.0 == db) r.answers ≤ 1
