-- What holds of the keys of the cache.
use Rattle.std.specs.Prelude.{◌≡◌, ◌<◌, ◌≤◌, ℕ, true, List, length, Some}
use Rattle.da_base.specs.Words.{nth, count_where}
use Rattle.da_keys.specs.Keys.{same_key, has_key}
use Rattle.da_keys.specs.declared.key.Key.{Key}
use Rattle.da_fields.specs.declared.answer.Answer.{Answer}
use Rattle.da_tables.specs.Hits.{newest}
use Rattle.da_tables.specs.RecordedAnswers.{ttl_of}
use Rattle.da_play.specs.History.{tables_of}
use Rattle.da_play.specs.Legal.{IsLegal}
use Rattle.da_play.specs.declared.input.Entry.{Entry}
use Rattle.da_settings.specs.declared.settings.Settings.{Settings}
use Rattle.da_tables.specs.declared.queries.QueryRow.{QueryRow}
use Rattle.da_tables.specs.declared.tables.Tables.{Tables}

-- the newest answer of a key is there, and its ttl isn't 0
pub record HasAnswer (settings : Settings) (tables : Tables) (k : Key) : Type 0 where
  pub number : ℕ
  pub is_newest : newest tables k ≡ Some number
  pub query : QueryRow
  pub is_there : nth tables.queries number ≡ Some query
  pub answer : Answer
  pub moment : ℕ
  pub is_answer_recorded : query.answer ≡ Some (answer, moment)
  pub has_ttl : 0 < ttl_of settings answer

-- the keys fit the cache, no key is there twice, and each has an answer that may be repeated for some time
pub record KeysAreFit (settings : Settings) (tables : Tables) : Type 0 where
  pub fit : length tables.keys ≤ settings.cache_size
  pub are_distinct : (k : Key) → count_where (same_key k) tables.keys ≤ 1
  pub have_answers : (k : Key) → has_key k tables.keys ≡ true → HasAnswer settings tables k

abbrev pub KeysFit : Type 0
KeysFit = (settings : Settings) (h : List Entry) → IsLegal settings h → KeysAreFit settings (tables_of settings h)
