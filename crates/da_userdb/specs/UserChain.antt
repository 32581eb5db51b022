-- The chain of user databases: what a lookup asks next, or what it finds, from the answers so far.
use Rattle.std.specs.Prelude.{ℕ, Bool, true, false, ◌&&◌, not, List, [], ◌∷◌, Option, Some, None, if◌then◌else◌}
use Rattle.std.specs.List.{list_all}
use Rattle.da_base.specs.Words.{is_empty}
use Rattle.da_fields.specs.FieldList.{Pairs, merge, userdb_part}
use Rattle.da_fields.specs.Answers.{Answers, answer_from, answer_fields, fits, rule_for}
use Rattle.da_names.specs.Templates.{expand_fields, is_template_field}
use Rattle.da_chain.specs.Numbering.{are_numbered}
use Rattle.da_fields.specs.declared.answer.Answer.{Answer}
use Rattle.da_fields.specs.declared.answer.Answer.TheVariants.{Found as FoundRow, Unknown as NotKnown}
use Rattle.da_fields.specs.declared.answer.QueryKind.TheVariants.{User}
use Rattle.da_fields.specs.declared.outcome.Outcome.{Outcome}
use Rattle.da_fields.specs.declared.outcome.Outcome.TheVariants.{Success, Unknown, Internal}
use Rattle.da_fields.specs.declared.outcome.Rule.{Rule}
use Rattle.da_fields.specs.declared.outcome.Rule.TheVariants.{ReturnOk, ReturnFail, Return, ContinueOk, ContinueFail, Continue}
use Rattle.da_names.specs.declared.variables.Vars.{Vars}
use Rattle.da_userdb.specs.declared.database.Lookup.{Lookup}
use Rattle.da_userdb.specs.declared.database.Userdb.{Userdb}
use Rattle.da_userdb.specs.declared.database.UserChain.{UserChain}
use Rattle.da_userdb.specs.declared.database.UserChain.TheVariants.{Ask, Found, NotFound, Temp}
use Rattle.da_userdb.specs.declared.database.UserDriver.{UserDriver}
use Rattle.da_userdb.specs.declared.database.UserDriver.TheVariants.{Prefetch}
use Rattle.da_userdb.specs.declared.database.UserSkip.{UserSkip}
use Rattle.da_userdb.specs.declared.database.UserSkip.TheVariants.{Never, Found as WhereFound, NotFound as WhereNotFound}
use Rattle.da_userdb.specs.declared.progress.UserProgress.{UserProgress}

-- ---- lists of databases

-- its default and override fields have keys, and templates as values
abbrev pub is_valid_userdb : Userdb → Bool
is_valid_userdb db = list_all is_template_field db.default_fields && list_all is_template_field db.override_fields

-- each is valid, and their numbers are n and so on, in order
abbrev pub are_valid_from : ℕ → List Userdb → Bool
are_valid_from n dbs = are_numbered (λ db. db.number) is_valid_userdb n dbs

abbrev pub are_valid_userdbs : List Userdb → Bool
are_valid_userdbs dbs = are_valid_from 1 dbs

-- ---- a walk along the databases

-- the state before the first database
abbrev pub no_user_progress : UserProgress
no_user_progress = record { found = false; internal = false; fields = [] }

-- what one database does to the state
pub data UserMove : Type 0 where
  UserGoOn : UserProgress → UserMove
  UserStop : UserChain → UserMove

abbrev pub user_end : UserProgress → UserChain
user_end p = if p.found then Found p.fields else if p.internal then Temp else NotFound

abbrev pub is_user_skipped : UserSkip → Bool → Bool
is_user_skipped Never found = false
is_user_skipped WhereFound found = found
is_user_skipped WhereNotFound found = not found

abbrev pub is_prefetch : UserDriver → Bool
is_prefetch Prefetch = true
is_prefetch _ = false

abbrev pub fitting_user_outcome : Answer → Outcome
fitting_user_outcome (FoundRow stored fields) = Success
fitting_user_outcome NotKnown = Unknown
fitting_user_outcome _ = Internal

-- the outcome of an answer; a Found answer that fits is a success
abbrev pub user_outcome : Answer → Outcome
user_outcome answer = if fits User answer then fitting_user_outcome answer else Internal

abbrev pub with_user_outcome : Userdb → Vars → Outcome → Pairs → UserProgress → UserProgress
with_user_outcome db v Success fields p =
    record p { fields = merge p.fields (expand_fields v db.default_fields) fields (expand_fields v db.override_fields) }
with_user_outcome db v Internal fields p = record p { internal = true }
with_user_outcome db v _ fields p = p

abbrev pub by_user_rule : Rule → UserProgress → UserMove
by_user_rule ReturnOk p = UserStop (user_end (record p { found = true }))
by_user_rule ReturnFail p = UserStop (user_end (record p { found = false }))
by_user_rule Return p = UserStop (user_end p)
by_user_rule ContinueOk p = UserGoOn (record p { found = true })
by_user_rule ContinueFail p = UserGoOn (record p { found = false })
by_user_rule Continue p = UserGoOn p

abbrev pub after_user_outcome : Userdb → Vars → Outcome → Pairs → UserProgress → UserMove
after_user_outcome db v o fields p =
    by_user_rule (rule_for db.result_success db.result_failure db.result_internalfail o) (with_user_outcome db v o fields p)

abbrev pub user_answer_move : Userdb → Lookup → UserProgress → Option Answer → UserMove
user_answer_move db lookup p None = UserStop (Ask db.number)
user_answer_move db lookup p (Some answer) = after_user_outcome db lookup.vars (user_outcome answer) (answer_fields answer) p

-- a prefetch database isn't asked: it is a success exactly where the password databases gave a field for it
abbrev pub prefetch_move : Userdb → Lookup → UserProgress → UserMove
prefetch_move db lookup p =
    if is_empty (userdb_part lookup.passdb_fields)
    then after_user_outcome db lookup.vars Unknown [] p
    else after_user_outcome db lookup.vars Success (userdb_part lookup.passdb_fields) p

-- what a database does to the state of a lookup, with its answer if there is one
unfoldable pub user_move : Userdb → Lookup → UserProgress → Option Answer → UserMove
user_move db lookup p answer =
    if is_user_skipped db.skip p.found then UserGoOn p
    else if is_prefetch db.driver then prefetch_move db lookup p
    else user_answer_move db lookup p answer

abbrev pub user_continued : UserMove → (UserProgress → UserChain) → UserChain
user_continued (UserStop c) walk_on = c
user_continued (UserGoOn p) walk_on = walk_on p

-- the walk along the databases from a state, with the answers so far
abbrev pub user_walk : List Userdb → Lookup → Answers → UserProgress → UserChain
user_walk [] lookup answers p = user_end p
user_walk (db ∷ dbs) lookup answers p = user_continued (user_move db lookup p (answer_from db.number answers)) (user_walk dbs lookup answers)

-- what a lookup asks next, or what it finds, from the answers so far
unfoldable pub user_chain : List Userdb → Lookup → Answers → UserChain
user_chain dbs lookup answers = user_walk dbs lookup answers no_user_progress
