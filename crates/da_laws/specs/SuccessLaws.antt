-- Laws on logins that succeed.
use Rattle.std.specs.Prelude.{◌≡◌, ◌⊎◌, Bool, true, false, IsFalse, List, [], ◌∷◌, Option, Some}
use Rattle.da_base.specs.Words.{Bytes}
use Rattle.da_fields.specs.FieldList.{Pairs}
use Rattle.da_fields.specs.Answers.{Answers, answer_from}
use Rattle.da_passdb.specs.Outcomes.{outcome}
use Rattle.da_fields.specs.declared.answer.Answer.{Answer}
use Rattle.da_fields.specs.declared.outcome.Outcome.TheVariants.{Success as Succeeds}
use Rattle.da_fields.specs.declared.outcome.Rule.{Rule}
use Rattle.da_fields.specs.declared.outcome.Rule.TheVariants.{ReturnOk, ContinueOk}
use Rattle.da_passdb.specs.declared.database.Passdb.{Passdb}
use Rattle.da_passdb.specs.declared.login.Login.{Login}
use Rattle.da_request.specs.Requests.{decision, login_of}
use Rattle.da_request.specs.declared.request.Request.{Request}
use Rattle.da_request.specs.declared.stages.Decision.TheVariants.{Success}
use Rattle.da_settings.specs.declared.settings.Settings.{Settings}

-- a rule that lets a login in by itself
abbrev pub lets_in : Rule → Bool
lets_in ReturnOk = true
lets_in ContinueOk = true
lets_in _ = false

-- failures and internal failures let nobody in
pub record IsStrict (db : Passdb) : Type 0 where
  pub failure : IsFalse (lets_in db.result_failure)
  pub internal : IsFalse (lets_in db.result_internalfail)

abbrev pub AllStrict : List Passdb → Type 0
AllStrict [] = Unit {0}
AllStrict (db ∷ dbs) = IsStrict db × AllStrict dbs

abbrev pub IsAmong : Passdb → List Passdb → Type 0
IsAmong db [] = ⊥
IsAmong db (d ∷ dbs) = (d ≡ db) ⊎ IsAmong db dbs

-- an answer of a database that denies nobody is recorded, and it is a success, by the password where one is sent
pub record HasSuccess (dbs : List Passdb) (login : Login) (answers : Answers) : Type 0 where
  pub db : Passdb
  pub is_there : IsAmong db dbs
  pub is_no_deny : db.deny ≡ false
  pub answer : Answer
  pub recorded : answer_from db.number answers ≡ Some answer
  pub succeeds : outcome db login false answer ≡ Succeeds

-- where failures let nobody in, a request that is told OK has a recorded answer that is a success for its own login
abbrev pub OkHasItsAnswer : Type 0
OkHasItsAnswer =
    (settings : Settings) (r : Request) (user : Bytes) (fields : Pairs) (last : Option Bytes) →
    AllStrict settings.passdb → decision settings r ≡ Some (Success user fields last) →
    (login : Login) × (login_of settings r ≡ Some login) × HasSuccess settings.passdb login r.answers
