-- An exchange of a worker: what it does with its spawner, its link and its runner for one query, and the answer that it gets.
-- Where the answer is an error, memory was wanted.
use Rattle.std.specs.Prelude.{◌≡◌, ◌≤◌, ◌⊎◌, ℕ, Bool, true, false, [], ◌∷◌, Option, Some, None, Result, Ok, Err, IfOk}
use Rattle.std.specs.declared.alloc.AllocError.{AllocError}
use Rattle.da_base.specs.Words.{Bytes, nth, option_or_else}
use Rattle.da_child.specs.Child.{Checks}
use Rattle.da_fields.specs.declared.answer.Answer.{Answer}
use Rattle.da_fields.specs.declared.answer.Answer.TheVariants.{Found, Passed, Mismatch, Unknown, Internal}
use Rattle.da_fields.specs.declared.answer.Query.{Query}
use Rattle.da_fields.specs.declared.answer.QueryKind.{QueryKind}
use Rattle.da_fields.specs.declared.answer.QueryKind.TheVariants.{Pass, Check, User}
use Rattle.da_fields.specs.declared.answer.Why.TheVariants.{Died, Malformed, Said, Late, Exit}
use Rattle.da_outside.specs.Causes.{Rose}
use Rattle.da_outside.specs.Link.{LinkState}
use Rattle.da_outside.specs.Past.{Gains, Stays}
use Rattle.da_outside.specs.Runner.{RunnerState}
use Rattle.da_outside.specs.Spawner.{HandsBack, IsFresh, SpawnerState, TakesOver}
use Rattle.da_outside.specs.declared.spawner.Spawned.TheVariants.{FailedStart}
use Rattle.da_settings.specs.declared.settings.Settings.{Settings}
use Rattle.da_workers.specs.Asking.{Asks}

-- at one moment: a worker's spawner, and its link, where it has one
pub record Links (Link : Type 0) : Type 0 where
  pub spawner : SpawnerState Link
  pub link : Option LinkState

-- at one moment: these, and its runner
pub record Tools (Link : Type 0) : Type 0 where
  pub links : Links Link
  pub runner : RunnerState

abbrev pub links_of : {L : Type 0} → SpawnerState L → Option LinkState → Links L
links_of spawner link = record { spawner = spawner; link = link }

abbrev pub tools_of : {L : Type 0} → SpawnerState L → Option LinkState → RunnerState → Tools L
tools_of spawner link runner = record { links = links_of spawner link; runner = runner }

-- ---- the link

-- The link that the worker had is the one to be used, or a new one where it had none.
abbrev pub IsAtHand : {L : Type 0} → Option LinkState → SpawnerState L → SpawnerState L → LinkState → Type 0
IsAtHand None before after link = IsFresh link × Stays before.past after.past × (before.faults ≤ after.faults)
IsAtHand (Some kept) before after link = (link ≡ kept) × (after ≡ before)

-- the link is of no more use after this: the worker died, what it said is malformed, or memory was wanted
abbrev pub is_spoilt : Result Answer AllocError → Bool
is_spoilt (Ok (Internal Died)) = true
is_spoilt (Ok (Internal Malformed)) = true
is_spoilt (Ok (Internal Said)) = false
is_spoilt (Ok (Internal Late)) = false
is_spoilt (Ok (Internal (Exit status))) = false
is_spoilt (Ok (Found stored fields)) = false
is_spoilt (Ok (Passed fields)) = false
is_spoilt (Ok Mismatch) = false
is_spoilt (Ok Unknown) = false
is_spoilt (Err wanted) = true

-- the link is handed back to the spawner, and the worker has none
pub record IsHandedBack {L : Type 0} (link : LinkState) (before after : SpawnerState L) (kept : Option LinkState) : Type 0 where
  pub none : kept ≡ None
  pub past : HandsBack before.past after.past link.talk
  pub faults : TakesOver before.faults after.faults link.faults

-- A link that is of no more use is handed back. Any other is kept.
abbrev pub IsPutAway : {L : Type 0} → Bool → LinkState → SpawnerState L → SpawnerState L → Option LinkState → Type 0
IsPutAway true link before after kept = IsHandedBack link before after kept
IsPutAway false link before after kept = (kept ≡ Some link) × (after ≡ before)

-- The query is asked over this link of the spawner, which is then kept or handed back.
pub record AsksOver {L : Type 0} (query : Query) (link : LinkState) (started : SpawnerState L) (after : Links L) (answer : Result Answer AllocError) : Type 0 where
  pub asked : LinkState
  pub asks : Asks query link asked answer
  pub put_away : IsPutAway (is_spoilt answer) asked started after.spawner after.link

-- The query is asked over the link that the worker had, or over a new one where it had none.
pub record AsksAtHand {L : Type 0} (query : Query) (before after : Links L) (answer : Result Answer AllocError) : Type 0 where
  pub link : LinkState
  pub started : SpawnerState L
  pub at_hand : IsAtHand before.link before.spawner started link
  pub asks : AsksOver query link started after answer

-- no link was there and none could be started, since the start failed or memory was wanted
abbrev pub IsFailedStart : {L : Type 0} → SpawnerState L → SpawnerState L → Result Answer AllocError → Type 0
IsFailedStart before after (Ok answer) =
    (answer ≡ Internal Died) × Gains before.past after.past (FailedStart ∷ []) × Rose before.faults after.faults
IsFailedStart before after (Err wanted) = Stays before.past after.past

pub record StartsNone {L : Type 0} (before after : Links L) (answer : Result Answer AllocError) : Type 0 where
  pub none : before.link ≡ None
  pub still_none : after.link ≡ None
  pub later : before.spawner.faults ≤ after.spawner.faults
  pub start : IsFailedStart before.spawner after.spawner answer

-- a query is asked over a link, if one can be started
abbrev pub AsksWorker : {L : Type 0} → Query → Links L → Links L → Result Answer AllocError → Type 0
AsksWorker query before after answer = AsksAtHand query before after answer ⊎ StartsNone before after answer

-- ---- the program

-- the program of a password database; a database that isn't there has an empty one
abbrev pub program_of : Settings → ℕ → Bytes
program_of settings db = option_or_else (nth settings.passdb db) [] (λ p. p.args)

abbrev pub password_of : Query → Bytes
password_of query = option_or_else query.password [] (λ password. password)

-- The database's program checks the user's password.
pub record AsksProgram (settings : Settings) (query : Query) (before after : RunnerState) (answer : Result Answer AllocError) : Type 0 where
  pub later : before.faults ≤ after.faults
  pub checks : IfOk answer (λ answer. Checks (program_of settings query.db) query.user (password_of query) before after answer)

-- ---- an exchange

abbrev pub ExchangesBy : {L : Type 0} → QueryKind → Settings → Query → Tools L → Tools L → Result Answer AllocError → Type 0
ExchangesBy Pass settings query before after answer = AsksWorker query before.links after.links answer × (after.runner ≡ before.runner)
ExchangesBy User settings query before after answer = AsksWorker query before.links after.links answer × (after.runner ≡ before.runner)
ExchangesBy Check settings query before after answer = AsksProgram settings query before.runner after.runner answer × (after.links ≡ before.links)

-- One exchange: a query to check a password is for its program, and nothing is said over a link. Any other is for a worker,
-- and nothing is run.
abbrev pub Exchanges : {L : Type 0} → Settings → Query → Tools L → Tools L → Result Answer AllocError → Type 0
Exchanges settings query before after answer = ExchangesBy query.kind settings query before after answer
