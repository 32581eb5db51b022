-- Laws on queries that are asked once more.
use Rattle.std.specs.Prelude.{◌≡◌, ◌≤◌, ◌<◌, ◌+◌, ℕ, true, List, [], ◌∷◌, length, Some, None}
use Rattle.da_base.specs.Words.{nth, count_where}
use Rattle.da_fields.specs.declared.answer.Answer.TheVariants.{Internal}
use Rattle.da_fields.specs.declared.answer.Why.TheVariants.{Died}
use Rattle.da_tables.specs.RecordedAnswers.{asks_same, is_kept_kind, is_lost_in}
use Rattle.da_play.specs.History.{tables_of}
use Rattle.da_play.specs.Legal.{IsLegal}
use Rattle.da_play.specs.declared.input.Entry.{Entry}
use Rattle.da_play.specs.declared.input.Input.TheVariants.{Answered}
use Rattle.da_request.specs.Requests.{is_undecided}
use Rattle.da_request.specs.declared.request.Request.{Request}
use Rattle.da_settings.specs.declared.settings.Settings.{Settings}
use Rattle.da_tables.specs.declared.queries.QueryRow.{QueryRow}

-- of two queries of a request to one database the first is lost: it has no other answer than that its worker died
pub record IsRepeat (settings : Settings) (h : List Entry) (k : ℕ) (a b : QueryRow) : Type 0 where
  pub is_lost : is_lost_in (tables_of settings h).queries k ≡ true
  pub may_be_repeated : is_kept_kind a.question.kind ≡ true
  pub moment : ℕ
  pub died : a.answer ≡ Some (Internal Died, moment)
  pub same_question : b.question ≡ a.question

-- in a legal history a request asks a database a second time only where its first query was lost, and then the same
abbrev pub AskedAgainWhereLost : Type 0
AskedAgainWhereLost =
    (settings : Settings) (h : List Entry) → IsLegal settings h → (k m : ℕ) (a b : QueryRow) →
    nth (tables_of settings h).queries k ≡ Some a → nth (tables_of settings h).queries m ≡ Some b → k < m → asks_same a b ≡ true →
    IsRepeat settings h k a b

-- in a legal history a request asks a database twice at most
abbrev pub AskedTwiceAtMost : Type 0
AskedTwiceAtMost =
    (settings : Settings) (h : List Entry) → IsLegal settings h → (a : QueryRow) →
    count_where (asks_same a) (tables_of settings h).queries ≤ 2

-- where the first query of a request to a database is lost, and no answer is repeated for it, the request asks the same
-- under the next number, unless it is decided, cancelled or timed out by then
abbrev pub LostIsAskedAgain : Type 0
LostIsAskedAgain =
    (settings : Settings) (e : Entry) (g : List Entry) (k : ℕ) (a : QueryRow) (r : Request) →
    IsLegal settings (e ∷ g) → e.input ≡ Answered k (Internal Died) → nth (tables_of settings (e ∷ g)).queries k ≡ Some a →
    is_lost_in (tables_of settings (e ∷ g)).queries k ≡ true →
    nth (tables_of settings (e ∷ g)).requests a.request ≡ Some r → is_undecided r ≡ true → e.hits ≡ [] →
    (b : QueryRow) × (nth (tables_of settings (e ∷ g)).queries (length (tables_of settings g).queries + 1) ≡ Some b)
    × (b.request ≡ a.request) × (b.question ≡ a.question) × (b.taken ≡ None)
