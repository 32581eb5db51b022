-- The chain of password databases: what a login asks next, or its verdict, from the answers so far.
use Rattle.std.specs.Prelude.{ℕ, Bool, true, false, ◌&&◌, ◌||◌, not, List, [], ◌∷◌, filter, Option, Some, None, if◌then◌else◌, codes, is_some}
use Rattle.std.specs.List.{list_all}
use Rattle.da_base.specs.Words.{Bytes}
use Rattle.da_fields.specs.FieldList.{field, merge}
use Rattle.da_fields.specs.Answers.{Answers, answer_from, answer_fields, is_success, rule_for}
use Rattle.da_names.specs.Filters.{filter_matches}
use Rattle.da_names.specs.Templates.{expand_fields, is_template_field}
use Rattle.da_chain.specs.Numbering.{are_numbered}
use Rattle.da_schemes.specs.Stored.{StoredPassword, stored_password}
use Rattle.da_fields.specs.declared.answer.Answer.{Answer}
use Rattle.da_fields.specs.declared.answer.Answer.TheVariants.{Found, Mismatch as Mismatched, Unknown as NotKnown, Internal as Failed}
use Rattle.da_fields.specs.declared.answer.QueryKind.{QueryKind}
use Rattle.da_fields.specs.declared.answer.QueryKind.TheVariants.{Check}
use Rattle.da_fields.specs.declared.outcome.Outcome.{Outcome}
use Rattle.da_fields.specs.declared.outcome.Outcome.TheVariants.{Success, NoScheme, Internal}
use Rattle.da_fields.specs.declared.outcome.Rule.{Rule}
use Rattle.da_fields.specs.declared.outcome.Rule.TheVariants.{ReturnOk, ReturnFail, Return, ContinueOk, ContinueFail, Continue}
use Rattle.da_names.specs.declared.variables.Vars.{Vars}
use Rattle.da_passdb.specs.declared.chain.Chain.{Chain}
use Rattle.da_passdb.specs.declared.chain.Chain.TheVariants.{Ask, Done}
use Rattle.da_passdb.specs.declared.chain.Verdict.{Verdict}
use Rattle.da_passdb.specs.declared.chain.VerdictKind.{VerdictKind}
use Rattle.da_passdb.specs.declared.chain.VerdictKind.TheVariants.{Ok as IsOkay, Fail as IsFail, Temp as IsTemp, Disabled as IsDisabled, Expired as IsExpired}
use Rattle.da_passdb.specs.declared.database.Passdb.{Passdb}
use Rattle.da_passdb.specs.declared.database.Skip.{Skip}
use Rattle.da_passdb.specs.declared.database.Skip.TheVariants.{Never, Authenticated, Unauthenticated}
use Rattle.da_passdb.specs.declared.login.Login.{Login}
use Rattle.da_passdb.specs.declared.progress.Progress.{Progress}
use Rattle.da_passdb.specs.Outcomes.{query_kind, is_plaintext_proof, outcome}

-- ---- lists of databases

-- its default and override fields have keys, and templates as values
abbrev pub is_valid_passdb : Passdb → Bool
is_valid_passdb db = list_all is_template_field db.default_fields && list_all is_template_field db.override_fields

-- each is valid, and their numbers are n and so on, in order
abbrev pub are_valid_from : ℕ → List Passdb → Bool
are_valid_from n dbs = are_numbered (λ db. db.number) is_valid_passdb n dbs

abbrev pub are_valid_passdbs : List Passdb → Bool
are_valid_passdbs dbs = are_valid_from 1 dbs

-- ---- a walk along the databases

-- the state before the first database
abbrev pub no_progress : Progress
no_progress = record { success = false; checked = false; internal = false; fields = []; credentials = None }

pub data Walk : Type 0 where
  Asking : (db : ℕ) (kind : QueryKind) (name : Bytes) (checked : Bool) → Walk
  Ended : VerdictKind → Progress → Walk
  -- a master login has authenticated its master, and goes on for the user
  Jumped : Progress → Walk

-- what one database does to the state
pub data Move : Type 0 where
  GoOn : Progress → Move
  Stop : Walk → Move

-- the fields so far have the key `expired`, whatever its value
abbrev pub is_expired : Progress → Bool
is_expired p = is_some (field (codes "expired") p.fields)

-- an end with success is Expired where the fields have the key `expired`, and else Ok; one without is Temp where a
-- database gave no answer
abbrev pub end_kind : Progress → VerdictKind
end_kind p = if p.success then (if is_expired p then IsExpired else IsOkay) else if p.internal then IsTemp else IsFail

abbrev pub ended : Progress → Walk
ended p = Ended (end_kind p) p

abbrev pub is_skipped : Skip → Bool → Bool
is_skipped Never success = false
is_skipped Authenticated success = success
is_skipped Unauthenticated success = not success

-- the filter sees the name that the database would be asked for
abbrev pub is_passed_over : Passdb → Bytes → Progress → Bool
is_passed_over db name p = is_skipped db.skip p.success || not (filter_matches db.username_filter name)

abbrev pub asking : Passdb → Bytes → Progress → Move
asking db name p = Stop (Asking db.number (query_kind db) name p.checked)

abbrev pub answer_credentials : Passdb → Answer → Option StoredPassword
answer_credentials db (Found stored fields) = stored_password db.default_scheme stored
answer_credentials db _ = None

-- what an outcome leaves, before the rule: success sets the fields, and the credentials where no password was checked
-- before
abbrev pub with_outcome : Passdb → Vars → Outcome → Answer → Progress → Progress
with_outcome db v Success answer p =
    record p {
      fields = merge p.fields (expand_fields v db.default_fields) (answer_fields answer) (expand_fields v db.override_fields);
      credentials = if p.checked then p.credentials else answer_credentials db answer;
    }
with_outcome db v Internal answer p = record p { internal = true }
with_outcome db v _ answer p = p

-- a master login goes on for the user once its master is authenticated
abbrev pub going_on : Bool → Progress → Move
going_on true p = Stop (Jumped p)
going_on false p = GoOn p

-- what a rule does; `succeeded` says whether the outcome was success, and `jumps` whether masters are authenticated here.
-- Under `continue` a success counts as a password that was checked.
abbrev pub by_rule : Rule → Bool → Bool → Progress → Move
by_rule ReturnOk succeeded jumps p = Stop (ended (record p { success = true }))
by_rule ReturnFail succeeded jumps p = Stop (ended (record p { success = false }))
by_rule Return succeeded jumps p = Stop (ended p)
by_rule ContinueOk succeeded jumps p = going_on (succeeded && jumps) (record p { success = true; checked = true })
by_rule ContinueFail succeeded jumps p = going_on (succeeded && jumps) (record p { success = false; checked = false })
by_rule Continue succeeded jumps p = going_on (succeeded && jumps) (record p { checked = p.checked || succeeded })

abbrev pub after_outcome : Bool → Passdb → Vars → Outcome → Answer → Progress → Move
after_outcome jumps db v o answer p =
    by_rule (rule_for db.result_success db.result_failure db.result_internalfail o) (is_success o) jumps (with_outcome db v o answer p)

abbrev pub is_check : QueryKind → Bool
is_check Check = true
is_check _ = false

-- a checkpassword database is asked with a plaintext password alone, and only while none was checked
abbrev pub is_unaskable : Passdb → Login → Progress → Bool
is_unaskable db login p = is_check (query_kind db) && (not (is_plaintext_proof login.proof) || p.checked)

-- a deny database: Unknown goes on, no answer is Temp, and any other answer Disabled
abbrev pub deny_move : Passdb → Bytes → Progress → Option Answer → Move
deny_move db name p None = asking db name p
deny_move db name p (Some NotKnown) = GoOn p
deny_move db name p (Some (Failed why)) = Stop (Ended IsTemp p)
deny_move db name p (Some _) = Stop (Ended IsDisabled p)

abbrev pub answer_move : Bool → Passdb → Bytes → Login → Progress → Option Answer → Move
answer_move jumps db name login p None = asking db name p
answer_move jumps db name login p (Some answer) = after_outcome jumps db login.vars (outcome db login p.checked answer) answer p

-- what a database does to the state of a login, asked for this name, with its answer if there is one
unfoldable pub move : Bool → Passdb → Bytes → Login → Progress → Option Answer → Move
move jumps db name login p answer =
    if is_passed_over db name p then GoOn p
    else if db.deny then deny_move db name p answer
    else if is_unaskable db login p then after_outcome jumps db login.vars NoScheme Mismatched p
    else answer_move jumps db name login p answer

abbrev pub continued : Move → (Progress → Walk) → Walk
continued (Stop w) walk_on = w
continued (GoOn p) walk_on = walk_on p

-- the walk along the databases from a state, with the answers so far; after the last it ends with the state so far
abbrev pub walk : Bool → List Passdb → Bytes → Login → Answers → Progress → Walk
walk jumps [] name login answers p = ended p
walk jumps (db ∷ dbs) name login answers p =
    continued (move jumps db name login p (answer_from db.number answers)) (walk jumps dbs name login answers)

-- ---- a whole login

abbrev pub verdict : VerdictKind → Login → Bool → Progress → Verdict
verdict kind login authz p = record { kind = kind; user = login.user; authz = authz; fields = p.fields; credentials = p.credentials }

abbrev pub chain_of : Login → Bool → Walk → Chain
chain_of login authz (Asking db kind name checked) = Ask db kind name checked
chain_of login authz (Ended kind p) = Done (verdict kind login authz p)
chain_of login authz (Jumped p) = Done (verdict IsFail login authz p)

abbrev pub master_databases : List Passdb → List Passdb
master_databases dbs = filter (λ db. db.master) dbs

abbrev pub user_databases : List Passdb → List Passdb
user_databases dbs = filter (λ db. not db.master) dbs

abbrev pub users_part : List Passdb → Login → Answers → Progress → Walk
users_part dbs login answers p = walk false (user_databases dbs) login.user login answers p

-- a master part that ends without a jump ends the chain; `authz` tells of the jump of a plaintext login
abbrev pub after_masters : List Passdb → Login → Answers → Walk → Chain
after_masters dbs login answers (Jumped p) = chain_of login (is_plaintext_proof login.proof) (users_part dbs login answers p)
after_masters dbs login answers w = chain_of login false w

abbrev pub chain_for : Option Bytes → List Passdb → Login → Answers → Chain
chain_for None dbs login answers = chain_of login false (users_part dbs login answers no_progress)
chain_for (Some master) dbs login answers = after_masters dbs login answers (walk true (master_databases dbs) master login answers no_progress)

-- what a login asks next, or its verdict, from the answers so far
unfoldable pub login_chain : List Passdb → Login → Answers → Chain
login_chain dbs login answers = chain_for login.master dbs login answers
