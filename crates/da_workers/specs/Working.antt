-- What a worker does: for one query after another it takes the query, makes an exchange, and gives the answer.
use Rattle.std.specs.Prelude.{◌≡◌, ◌⊎◌, ⊤, ℕ, zero, suc, true, false, List, Option, Some, None, Result, Ok, Err, IfOk}
use Rattle.std.specs.declared.alloc.AllocError.{AllocError}
use Rattle.da_fields.specs.declared.answer.Answer.{Answer}
use Rattle.da_fields.specs.declared.answer.Query.{Query}
use Rattle.da_outside.specs.Causes.{Rose}
use Rattle.da_outside.specs.Link.{LinkState}
use Rattle.da_outside.specs.Runner.{RunnerState}
use Rattle.da_outside.specs.Spawner.{SpawnerState}
use Rattle.da_play.specs.History.{tables_of}
use Rattle.da_play.specs.Legal.{is_full}
use Rattle.da_play.specs.declared.input.Entry.{Entry}
use Rattle.da_play.specs.declared.input.Input.TheVariants.{Answered}
use Rattle.da_play.specs.declared.outputs.Refused.{Refused}
use Rattle.da_play.specs.declared.outputs.Refused.TheVariants.{ConnLimit, HistoryFull, NoConn, NoMemory, NotLate, NotTaken, NothingWaits}
use Rattle.da_port.specs.Calls.{Answers, HandsOut, Looks, PortSeat}
use Rattle.da_port.specs.declared.terms.Terms.{Terms}
use Rattle.da_tables.specs.Queries.{is_running_in}
use Rattle.da_turn.specs.Seats.{seen}
use Rattle.da_workers.specs.Deaths.{is_death}
use Rattle.da_workers.specs.Exchanges.{Exchanges, IsHandedBack, Tools, tools_of}

-- a worker at one moment: its seat, and what it has
pub record Standing (Link : Type 0) : Type 0 where
  pub seat : PortSeat
  pub tools : Tools Link

abbrev pub standing : {L : Type 0} → PortSeat → SpawnerState L → Option LinkState → RunnerState → Standing L
standing seat spawner link runner = record { seat = seat; tools = tools_of spawner link runner }

-- ---- the answer to one query

-- The call made one entry, the answer to the query, at a moment that the clock may tell.
pub record RecordsAnswer (terms : Terms) (may_tell : ℕ → Type 0) (s t : PortSeat) (number : ℕ) (answer : Answer) : Type 0 where
  pub moment : ℕ
  pub told : may_tell moment
  pub records : Answers terms s t moment (Answered number answer) (λ _. ⊤)

-- why an answer may be left out: the history is full, the query doesn't run, or memory was wanted
abbrev pub MayBeLeftOut : Terms → List Entry → ℕ → Refused → Type 0
MayBeLeftOut terms h number HistoryFull = is_full terms.settings h ≡ true
MayBeLeftOut terms h number (NotTaken query) = is_running_in (tables_of terms.settings h) number ≡ false
MayBeLeftOut terms h number NoMemory = ⊤
MayBeLeftOut terms h number (ConnLimit count) = ⊥
MayBeLeftOut terms h number (NoConn conn) = ⊥
MayBeLeftOut terms h number NothingWaits = ⊥
MayBeLeftOut terms h number (NotLate query due) = ⊥

-- no entry was made, and the history then seen tells why
pub record LeavesOut (terms : Terms) (s t : PortSeat) (number : ℕ) : Type 0 where
  pub looks : Looks s t
  pub refused : Refused
  pub reason : MayBeLeftOut terms (seen t) number refused

-- The answer is recorded, or left out for a reason. Where memory was wanted there is none.
abbrev pub GivesAnswer : Terms → (ℕ → Type 0) → PortSeat → PortSeat → ℕ → Result Answer AllocError → Type 0
GivesAnswer terms may_tell s t number (Ok answer) = RecordsAnswer terms may_tell s t number answer ⊎ LeavesOut terms s t number
GivesAnswer terms may_tell s t number (Err wanted) = t ≡ s

-- ---- one query

-- One exchange is made for the query, and then the answer of that exchange is given. So the calls on spawner, link and runner
-- before the answer are those of the exchange.
pub record AnswersQuery {L : Type 0} (terms : Terms) (may_tell : ℕ → Type 0) (query : Query) (s t : Standing L) : Type 0 where
  pub answer : Result Answer AllocError
  pub exchange : Exchanges terms.settings query s.tools t.tools answer
  pub gives : GivesAnswer terms may_tell s.seat t.seat query.number answer

-- the call made one entry, a Take at a moment that the clock may tell, and this is the query that it hands out
pub record TakesAt (terms : Terms) (may_tell : ℕ → Type 0) (s t : PortSeat) (query : Query) : Type 0 where
  pub moment : ℕ
  pub told : may_tell moment
  pub takes : HandsOut terms s t moment query

-- The worker took a query, and then answered it.
pub record Serves {L : Type 0} (terms : Terms) (may_tell : ℕ → Type 0) (s t : Standing L) : Type 0 where
  pub query : Query
  pub taken : PortSeat
  pub takes : TakesAt terms may_tell s.seat taken query
  pub answers : AnswersQuery terms may_tell query (record { seat = taken; tools = s.tools }) t

-- ---- one query after another

-- the worker made no entry and no call on spawner, link or runner; it may have seen more of the history
abbrev pub Rests : {L : Type 0} → Standing L → Standing L → Type 0
Rests s t = Looks s.seat t.seat × (t.tools ≡ s.tools)

-- so many rounds, one after another; between them, and before and after, the worker rested
abbrev pub Rounds : {L : Type 0} → (Standing L → Standing L → Type 0) → ℕ → Standing L → Standing L → Type 0
Rounds Round zero s t = Rests s t
Rounds {L} Round (suc n) s t =
    (before : Standing L) × (after : Standing L) × Rounds Round n s before × Round before after × Rests after t

-- the link is handed back, if there is one
abbrev pub HandsIn : {L : Type 0} → Option LinkState → SpawnerState L → SpawnerState L → Type 0
HandsIn None before after = after ≡ before
HandsIn (Some link) before after = IsHandedBack link before after None

-- Over a whole call the worker made some rounds, and at the end it handed back its link.
pub record WorksBy {L : Type 0} (Round : Standing L → Standing L → Type 0) (s t : Standing L) : Type 0 where
  pub count : ℕ
  pub last : Standing L
  pub rounds : Rounds Round count s last
  pub seat : t.seat ≡ last.seat
  pub hands_in : HandsIn last.tools.links.link last.tools.links.spawner t.tools.links.spawner
  pub none : t.tools.links.link ≡ None
  pub runner : t.tools.runner ≡ last.tools.runner

-- it served some queries, one after another
abbrev pub Works : {L : Type 0} → Terms → (ℕ → Type 0) → Standing L → Standing L → Type 0
Works terms may_tell s t = WorksBy (Serves terms may_tell) s t

-- ---- without a fault

-- A query was served, and its answer is what the link, or the program, gave: it doesn't say that one died.
abbrev pub ServesSoundly : {L : Type 0} → Terms → (ℕ → Type 0) → Standing L → Standing L → Type 0
ServesSoundly terms may_tell s t = (serves : Serves terms may_tell s t) × IfOk serves.answers.answer (λ answer. is_death answer ≡ false)

-- Where no fault of spawner, links and runner was counted, each query was served so.
abbrev pub WorksSoundly : {L : Type 0} → Terms → (ℕ → Type 0) → Standing L → Standing L → Type 0
WorksSoundly terms may_tell s t =
    (Rose s.tools.links.spawner.faults t.tools.links.spawner.faults → ⊥)
    → (Rose s.tools.runner.faults t.tools.runner.faults → ⊥)
    → WorksBy (ServesSoundly terms may_tell) s t
