-- Laws that read the tables as sentences on the history.
use Rattle.std.specs.Prelude.{◌≡◌, ℕ, true, false, List, [], ◌∷◌, ◌++◌, Some, None, is_some, ◌==◌}
use Rattle.std.specs.List.{list_any}
use Rattle.da_base.specs.Words.{nth, passes_option}
use Rattle.da_fields.specs.declared.answer.Answer.{Answer}
use Rattle.da_tables.specs.RecordedAnswers.{recorded_answer}
use Rattle.da_play.specs.Effects.{effects}
use Rattle.da_play.specs.History.{Tells, tables_of}
use Rattle.da_play.specs.declared.input.Entry.{Entry}
use Rattle.da_play.specs.declared.input.Input.TheVariants.{Take}
use Rattle.da_request.specs.Requests.{decision, is_over_limit}
use Rattle.da_request.specs.declared.request.Request.{Request}
use Rattle.da_settings.specs.declared.settings.Settings.{Settings}
use Rattle.da_tables.specs.Queries.{is_running_in, is_waiting, running, waiting}
use Rattle.da_tables.specs.Tables.{is_open_in}
use Rattle.da_tables.specs.declared.queries.QueryRow.{QueryRow}
use Rattle.da_steps.specs.Connections.{ends}

-- an entry of a history, and the entries before it
pub record Among (h : List Entry) (entry : Entry) (older : List Entry) : Type 0 where
  pub newer : List Entry
  pub is_there : h ≡ newer ++ entry ∷ older

-- ---- requests

-- the first entry after which a request is decided, by its stage or by its limit
pub record WasDecided (settings : Settings) (h : List Entry) (n moment : ℕ) : Type 0 where
  pub entry : Entry
  pub older : List Entry
  pub among : Among h entry older
  pub at_moment : entry.moment ≡ moment
  pub not_before : (s : Request) → nth (tables_of settings older).requests n ≡ Some s → is_some (decision settings s) ≡ false
  pub request : Request
  pub is_there : nth (tables_of settings (entry ∷ older)).requests n ≡ Some request
  pub is_decided : is_some (decision settings request) ≡ true

-- the moment at which a request was decided is that of the first entry after which it is decided
abbrev pub DecidedIsFirst : Type 0
DecidedIsFirst =
    (settings : Settings) (h : List Entry) (n m : ℕ) (r : Request) → nth (tables_of settings h).requests n ≡ Some r → r.decided ≡ Some m → WasDecided settings h n m

-- the entry that timed a request out: it found a client's request undecided, and its limit reached
pub record WasTimedOut (settings : Settings) (h : List Entry) (n : ℕ) (r : Request) : Type 0 where
  pub entry : Entry
  pub older : List Entry
  pub among : Among h entry older
  pub before : Request
  pub is_there : nth (tables_of settings older).requests n ≡ Some before
  pub was_over : is_over_limit settings entry.moment before ≡ true
  pub is_decided : r.decided ≡ Some entry.moment
  pub is_replied : r.replied ≡ Some entry.moment

-- a request is timed out exactly where an entry found it undecided, and its limit reached
pub record TimedOutIsOver (settings : Settings) : Type 0 where
  pub by_entry : (h : List Entry) (n : ℕ) (r : Request) → nth (tables_of settings h).requests n ≡ Some r → r.is_timed_out ≡ true → WasTimedOut settings h n r
  pub of_entry : (h : List Entry) (n : ℕ) (r : Request) → nth (tables_of settings h).requests n ≡ Some r → WasTimedOut settings h n r → r.is_timed_out ≡ true

abbrev pub TimedOutIsRead : Type 0
TimedOutIsRead = (settings : Settings) → TimedOutIsOver settings

-- the entry that replied to a request: none did so before it, nor was it cancelled before
pub record WasReplied (settings : Settings) (h : List Entry) (n moment : ℕ) : Type 0 where
  pub entry : Entry
  pub older : List Entry
  pub among : Among h entry older
  pub at_moment : entry.moment ≡ moment
  pub not_before : (s : Request) → nth (tables_of settings older).requests n ≡ Some s → (s.replied ≡ None) × (s.is_cancelled ≡ false)

-- the moment at which a request was replied is that of an entry that found it neither replied nor cancelled; that it was
-- due then, and that no entry before left it due, are laws on replies
abbrev pub RepliedIsFirst : Type 0
RepliedIsFirst =
    (settings : Settings) (h : List Entry) (n m : ℕ) (r : Request) → nth (tables_of settings h).requests n ≡ Some r → r.replied ≡ Some m → WasReplied settings h n m

-- ---- queries

-- the Take that handed a query out
pub record WasTaken (settings : Settings) (h : List Entry) (n moment : ℕ) : Type 0 where
  pub entry : Entry
  pub older : List Entry
  pub among : Among h entry older
  pub is_take : entry.input ≡ Take
  pub at_moment : entry.moment ≡ moment
  pub hands_out : (effects settings (tables_of settings older) entry).handed_out ≡ Some n

-- a query is taken exactly where a Take handed it out
pub record TakenIsHandedOut (settings : Settings) : Type 0 where
  pub by_take : (h : List Entry) (n m : ℕ) (a : QueryRow) → nth (tables_of settings h).queries n ≡ Some a → a.taken ≡ Some m → WasTaken settings h n m
  pub of_take : (h : List Entry) (n m : ℕ) → WasTaken settings h n m → (a : QueryRow) → nth (tables_of settings h).queries n ≡ Some a → a.taken ≡ Some m

-- the entry that answered a query, which ran then
pub record WasAnswered (settings : Settings) (h : List Entry) (n : ℕ) (a : QueryRow) (answer : Answer) (moment : ℕ) : Type 0 where
  pub entry : Entry
  pub older : List Entry
  pub among : Among h entry older
  pub at_moment : entry.moment ≡ moment
  pub given : Answer
  pub tells : Tells entry.input n given
  pub is_running : is_running_in (tables_of settings older) n ≡ true
  pub is_answer_recorded : recorded_answer a.question.kind given ≡ answer

-- a query has an answer exactly where an entry answered it or told that it is late, while it ran; an answer that doesn't
-- fit is recorded as malformed
pub record AnsweredIsTold (settings : Settings) : Type 0 where
  pub by_entry : (h : List Entry) (n : ℕ) (a : QueryRow) (answer : Answer) (m : ℕ) → nth (tables_of settings h).queries n ≡ Some a → a.answer ≡ Some (answer, m) → WasAnswered settings h n a answer m
  pub of_entry : (h : List Entry) (n : ℕ) (a : QueryRow) (answer : Answer) (m : ℕ) → nth (tables_of settings h).queries n ≡ Some a → WasAnswered settings h n a answer m → a.answer ≡ Some (answer, m)

-- the waiting and the running queries are those that wait and run
pub record ListsAreWhole (settings : Settings) : Type 0 where
  pub waiting : (h : List Entry) (k : ℕ) → list_any (λ n. n == k) (waiting (tables_of settings h)) ≡ passes_option (is_waiting (tables_of settings h)) (nth (tables_of settings h).queries k)
  pub running : (h : List Entry) (k : ℕ) → list_any (λ n. n == k) (running (tables_of settings h)) ≡ is_running_in (tables_of settings h) k

-- a query waits from its question until its Take, and runs from its Take until its answer
abbrev pub QueriesAreRead : Type 0
QueriesAreRead = (settings : Settings) → TakenIsHandedOut settings × AnsweredIsTold settings × ListsAreWhole settings

-- ---- connections

-- none of these entries after a history ends this connection
abbrev pub NoneEnds : Settings → List Entry → List Entry → ℕ → Type 0
NoneEnds settings [] g conn = Unit {0}
NoneEnds settings (e ∷ newer) g conn = (ends settings (newer ++ g) e conn ≡ false) × NoneEnds settings newer g conn

-- an entry opened the connection, and none after it ended it
pub record WasOpened (settings : Settings) (h : List Entry) (conn : ℕ) : Type 0 where
  pub newer : List Entry
  pub entry : Entry
  pub older : List Entry
  pub is_there : h ≡ newer ++ entry ∷ older
  pub opens : (effects settings (tables_of settings older) entry).opened ≡ Some conn
  pub none_ends : NoneEnds settings newer (entry ∷ older) conn

-- a connection is open exactly where it was opened, and no entry after that ended it
pub record OpenIsOpened (settings : Settings) : Type 0 where
  pub by_entry : (h : List Entry) (conn : ℕ) → is_open_in (tables_of settings h) conn ≡ true → WasOpened settings h conn
  pub of_entry : (h : List Entry) (conn : ℕ) → WasOpened settings h conn → is_open_in (tables_of settings h) conn ≡ true

abbrev pub ConnectionsAreRead : Type 0
ConnectionsAreRead = (settings : Settings) → OpenIsOpened settings
