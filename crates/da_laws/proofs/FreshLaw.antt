-- An OK has no field that says that the password is expired.
use Rattle.std.proofs.Common.{◌≡◌, refl, sym, ◌∙◌, ap, subst, Option, Some, None, List, [], ◌∷◌, Bool, true, false, cond, ◌&&◌, ◌||◌, if◌then◌else◌, is_some, true≢false}
use Rattle.std.specs.Prelude.{codes}
use Rattle.std.proofs.lemmas.Option.{none-some, same_Some}
use Rattle.da_base.specs.Words.{Bytes}
use Rattle.da_fields.specs.Answers.{Answers, answer_from, is_success, rule_for}
use Rattle.da_fields.specs.FieldList.{Pairs, field}
use Rattle.da_fields.specs.declared.answer.Answer.{Answer}
use Rattle.da_fields.specs.declared.answer.Answer.TheVariants.{Found, Passed, Mismatch, Unknown, Internal}
use Rattle.da_fields.specs.declared.outcome.Outcome.{Outcome}
use Rattle.da_fields.specs.declared.outcome.Outcome.TheVariants.{NoScheme as HasNoScheme}
use Rattle.da_fields.specs.declared.outcome.Rule.{Rule}
use Rattle.da_fields.specs.declared.outcome.Rule.TheVariants.{ReturnOk, ReturnFail, Return, ContinueOk, ContinueFail, Continue}
use Rattle.da_fields.specs.declared.said.Said.{Said}
use Rattle.da_fields.specs.declared.said.Said.TheVariants.{Challenge, Need, Proof as Proven, Bad}
use Rattle.da_laws.proofs.Decisions.{by_stage_alone}
use Rattle.da_laws.specs.CodeLaws.{OkIsNotExpired}
use Rattle.da_msgs.specs.Replies.{mechanism_named}
use Rattle.da_msgs.specs.declared.kinds.Mech.{Mech}
use Rattle.da_names.specs.declared.variables.Vars.{Vars}
use Rattle.da_passdb.specs.LoginChain.{no_progress, Walk, Asking, Ended, Jumped, Move, GoOn, Stop, ended, going_on, by_rule, with_outcome, after_outcome, deny_move, answer_move, move, is_passed_over, is_unaskable, continued, walk, chain_of, master_databases, user_databases, users_part, after_masters, chain_for, login_chain}
use Rattle.da_passdb.specs.Outcomes.{outcome, is_plaintext_proof}
use Rattle.da_passdb.specs.declared.chain.Chain.{Chain}
use Rattle.da_passdb.specs.declared.chain.Chain.TheVariants.{Ask, Done}
use Rattle.da_passdb.specs.declared.chain.Verdict.{Verdict}
use Rattle.da_passdb.specs.declared.chain.VerdictKind.{VerdictKind}
use Rattle.da_passdb.specs.declared.chain.VerdictKind.TheVariants.{Ok as IsOkay, Fail as IsFail, Temp as IsTemp, Disabled as IsDisabled, Expired as IsExpired}
use Rattle.da_passdb.specs.declared.database.Passdb.{Passdb}
use Rattle.da_passdb.specs.declared.login.Login.{Login}
use Rattle.da_passdb.specs.declared.progress.Progress.{Progress}
use Rattle.da_request.specs.Attempts.{Attempt, after_chain, after_proof, after_verdict, attempt_stage, decided_by, has_proof, has_success, mechanism_says, names, opening, opening_by, opening_named, opening_said, stage_from, with_credentials}
use Rattle.da_request.specs.Requests.{attempt_by, body_stage, decision_in, lookup_stage, request_stage}
use Rattle.da_request.specs.declared.openings.Opening.{Opening}
use Rattle.da_request.specs.declared.openings.Opening.TheVariants.{Immediate, LogsIn}
use Rattle.da_request.specs.declared.request.Body.{Body}
use Rattle.da_request.specs.declared.request.Body.TheVariants.{Authenticates, LooksUp}
use Rattle.da_request.specs.declared.request.Request.{Request}
use Rattle.da_request.specs.declared.stages.Decision.{Decision}
use Rattle.da_request.specs.declared.stages.Decision.TheVariants.{Success}
use Rattle.da_request.specs.declared.stages.Stage.{Stage}
use Rattle.da_request.specs.declared.stages.Stage.TheVariants.{Asks, Awaits, Decided}
use Rattle.da_schemes.specs.Stored.{StoredPassword}
use Rattle.da_settings.specs.declared.settings.Settings.{Settings}
use Rattle.da_tables.proofs.Cases.{by_test}
use Rattle.da_userdb.specs.UserChain.{user_chain}
use Rattle.da_userdb.specs.declared.database.Lookup.{Lookup}
use Rattle.da_userdb.specs.declared.database.UserChain.{UserChain}
use Rattle.da_userdb.specs.declared.database.UserChain.TheVariants.{Ask as AskUser, Found as UserFound, NotFound as UserNotFound, Temp as UserFailed}

-- ---- an end with Ok has no such field

IsFresh : Pairs → Type 0
IsFresh fields = field (codes "expired") fields ≡ None

OnEnd : Walk → Type 0
OnEnd (Asking db kind name checked) = Unit {0}
OnEnd (Ended kind p) = kind ≡ IsOkay → IsFresh p.fields
OnEnd (Jumped p) = Unit {0}

OnStop : Move → Type 0
OnStop (GoOn p) = Unit {0}
OnStop (Stop w) = OnEnd w

is_okay : VerdictKind → Bool
is_okay IsOkay = true
is_okay _ = false

not_okay : (A : Type 0) (k : VerdictKind) → is_okay k ≡ false → k ≡ IsOkay → A
unfolding is_okay
not_okay A k f e = absurd (true≢false (sym (ap is_okay e) ∙ f))

ended_fresh : (p : Progress) → OnEnd (ended p)
unfolding OnEnd IsFresh is_okay
ended_fresh p e = go p.success (field (codes "expired") p.fields) refl e
  where
    go : (b : Bool) (o : Option Bytes) → field (codes "expired") p.fields ≡ o → cond b (cond (is_some o) IsExpired IsOkay) (cond p.internal IsTemp IsFail) ≡ IsOkay → field (codes "expired") p.fields ≡ None
    go true None x k = x
    go true (Some value) x k = not_okay _ IsExpired refl k
    go false o x k = not_okay _ (cond p.internal IsTemp IsFail) (by_test (λ j. is_okay j ≡ false) p.internal IsTemp IsFail (λ t. refl) (λ t. refl)) k

going_fresh : (b : Bool) (p : Progress) → OnStop (going_on b p)
unfolding OnStop OnEnd
going_fresh true p = tt
going_fresh false p = tt

rule_fresh : (rule : Rule) (succeeded jumps : Bool) (p : Progress) → OnStop (by_rule rule succeeded jumps p)
unfolding OnStop
rule_fresh ReturnOk succeeded jumps p = ended_fresh (record p { success = true })
rule_fresh ReturnFail succeeded jumps p = ended_fresh (record p { success = false })
rule_fresh Return succeeded jumps p = ended_fresh p
rule_fresh ContinueOk succeeded jumps p = going_fresh (succeeded && jumps) (record p { success = true; checked = true })
rule_fresh ContinueFail succeeded jumps p = going_fresh (succeeded && jumps) (record p { success = false; checked = false })
rule_fresh Continue succeeded jumps p = going_fresh (succeeded && jumps) (record p { checked = p.checked || succeeded })

outcome_fresh : (jumps : Bool) (db : Passdb) (v : Vars) (o : Outcome) (answer : Answer) (p : Progress) → OnStop (after_outcome jumps db v o answer p)
outcome_fresh jumps db v o answer p = rule_fresh (rule_for db.result_success db.result_failure db.result_internalfail o) (is_success o) jumps (with_outcome db v o answer p)

deny_fresh : (db : Passdb) (name : Bytes) (p : Progress) (o : Option Answer) → OnStop (deny_move db name p o)
unfolding OnStop OnEnd is_okay
deny_fresh db name p None = tt
deny_fresh db name p (Some Unknown) = tt
deny_fresh db name p (Some (Internal why)) = λ e. not_okay _ IsTemp refl e
deny_fresh db name p (Some (Found stored fields)) = λ e. not_okay _ IsDisabled refl e
deny_fresh db name p (Some (Passed fields)) = λ e. not_okay _ IsDisabled refl e
deny_fresh db name p (Some Mismatch) = λ e. not_okay _ IsDisabled refl e

answer_fresh : (jumps : Bool) (db : Passdb) (name : Bytes) (login : Login) (p : Progress) (o : Option Answer) → OnStop (answer_move jumps db name login p o)
unfolding OnStop OnEnd
answer_fresh jumps db name login p None = tt
answer_fresh jumps db name login p (Some answer) = outcome_fresh jumps db login.vars (outcome db login p.checked answer) answer p

move_fresh : (jumps : Bool) (db : Passdb) (name : Bytes) (login : Login) (p : Progress) (o : Option Answer) → OnStop (move jumps db name login p o)
unfolding move OnStop
move_fresh jumps db name login p o =
    by_test OnStop (is_passed_over db name p) (GoOn p) _ (λ e. tt) (λ e.
    by_test OnStop db.deny (deny_move db name p o) _ (λ d. deny_fresh db name p o) (λ d.
    by_test OnStop (is_unaskable db login p) _ _
    (λ u. outcome_fresh jumps db login.vars HasNoScheme Mismatch p)
    (λ u. answer_fresh jumps db name login p o)))

continued_fresh : (m : Move) (go_on : Progress → Walk) → OnStop m → ((p : Progress) → OnEnd (go_on p)) → OnEnd (continued m go_on)
unfolding OnStop
continued_fresh (GoOn p) go_on h k = k p
continued_fresh (Stop w) go_on h k = h

walk_fresh : (jumps : Bool) (dbs : List Passdb) (name : Bytes) (login : Login) (answers : Answers) (p : Progress) → OnEnd (walk jumps dbs name login answers p)
walk_fresh jumps [] name login answers p = ended_fresh p
walk_fresh jumps (db ∷ dbs) name login answers p =
    continued_fresh (move jumps db name login p (answer_from db.number answers)) (walk jumps dbs name login answers)
    (move_fresh jumps db name login p (answer_from db.number answers)) (λ q. walk_fresh jumps dbs name login answers q)

OnDone : Chain → Type 0
OnDone (Ask db kind user checked) = Unit {0}
OnDone (Done v) = v.kind ≡ IsOkay → IsFresh v.fields

chain_fresh : (login : Login) (authz : Bool) (w : Walk) → OnEnd w → OnDone (chain_of login authz w)
unfolding OnEnd OnDone is_okay
chain_fresh login authz (Asking db kind name checked) h = tt
chain_fresh login authz (Ended kind p) h = h
chain_fresh login authz (Jumped p) h = λ e. not_okay _ IsFail refl e

masters_fresh : (dbs : List Passdb) (login : Login) (answers : Answers) (w : Walk) → OnEnd w → OnDone (after_masters dbs login answers w)
masters_fresh dbs login answers (Asking db kind name checked) h = chain_fresh login false (Asking db kind name checked) h
masters_fresh dbs login answers (Ended kind p) h = chain_fresh login false (Ended kind p) h
masters_fresh dbs login answers (Jumped p) h =
    chain_fresh login (is_plaintext_proof login.proof) (users_part dbs login answers p) (walk_fresh false (user_databases dbs) login.user login answers p)

for_fresh : (master : Option Bytes) (dbs : List Passdb) (login : Login) (answers : Answers) → OnDone (chain_for master dbs login answers)
for_fresh None dbs login answers = chain_fresh login false (users_part dbs login answers no_progress) (walk_fresh false (user_databases dbs) login.user login answers no_progress)
for_fresh (Some master) dbs login answers = masters_fresh dbs login answers (walk true (master_databases dbs) master login answers no_progress) (walk_fresh true (master_databases dbs) master login answers no_progress)

-- ---- and so an OK has none

OnOk : Stage → Type 0
OnOk (Decided (Success user fields last)) = IsFresh fields
OnOk _ = Unit {0}

decided_fresh : (k : VerdictKind) (v : Verdict) (last : Option Bytes) → (k ≡ IsOkay → IsFresh v.fields) → OnOk (decided_by k v last)
unfolding OnOk
decided_fresh IsOkay v last h = h refl
decided_fresh IsFail v last h = tt
decided_fresh IsTemp v last h = tt
decided_fresh IsDisabled v last h = tt
decided_fresh IsExpired v last h = tt

proof_fresh : (v : Verdict) (s : Said) → (v.kind ≡ IsOkay → IsFresh v.fields) → OnOk (after_proof v s)
unfolding OnOk
proof_fresh v (Challenge text) h = tt
proof_fresh v (Need name authzid password) h = tt
proof_fresh v (Proven true last) h = decided_fresh v.kind v last h
proof_fresh v (Proven false last) h = tt
proof_fresh v Bad h = tt

credentials_fresh : (m : Mech) (settings : Settings) (a : Attempt) (v : Verdict) (o : Option StoredPassword) → (v.kind ≡ IsOkay → IsFresh v.fields) → OnOk (with_credentials m settings a v o)
unfolding OnOk
credentials_fresh m settings a v None h = tt
credentials_fresh m settings a v (Some stored) h = proof_fresh v (mechanism_says m settings a a.messages (Some stored)) h

verdict_fresh : (m : Mech) (settings : Settings) (a : Attempt) (v : Verdict) → (v.kind ≡ IsOkay → IsFresh v.fields) → OnOk (after_verdict v.kind m settings a v)
verdict_fresh m settings a v h = go (has_success v.kind && has_proof m)
  where
    go : (b : Bool) → OnOk (if b then with_credentials m settings a v v.credentials else decided_by v.kind v None)
    go true = credentials_fresh m settings a v v.credentials h
    go false = decided_fresh v.kind v None h

login_fresh : (m : Mech) (settings : Settings) (a : Attempt) (c : Chain) → OnDone c → OnOk (after_chain m settings a c)
unfolding OnOk OnDone
login_fresh m settings a (Ask db kind user checked) h = tt
login_fresh m settings a (Done v) h = verdict_fresh m settings a v h

OnOpening : Opening → Type 0
OnOpening (Immediate s) = OnOk s
OnOpening (LogsIn m login) = Unit {0}

named_fresh : (m : Mech) (a : Attempt) (password : Option Bytes) (n : Option (Bytes × Option Bytes)) → OnOpening (opening_named m a password n)
unfolding OnOpening OnOk
named_fresh m a password None = tt
named_fresh m a password (Some n) = tt

said_fresh : (m : Mech) (settings : Settings) (a : Attempt) (s : Said) → OnOpening (opening_said m settings a s)
unfolding OnOpening OnOk
said_fresh m settings a (Challenge text) = tt
said_fresh m settings a (Need name authzid password) = named_fresh m a password (names settings name authzid)
said_fresh m settings a (Proven right last) = tt
said_fresh m settings a Bad = tt

opening_fresh : (o : Option Mech) (settings : Settings) (a : Attempt) → OnOpening (opening_by o settings a)
unfolding OnOpening OnOk
opening_fresh None settings a = tt
opening_fresh (Some m) settings a = said_fresh m settings a (mechanism_says m settings a a.messages None)

from_fresh : (settings : Settings) (a : Attempt) (o : Opening) → OnOpening o → OnOk (stage_from settings a o)
unfolding OnOpening login_chain
from_fresh settings a (Immediate s) h = h
from_fresh settings a (LogsIn m login) h = login_fresh m settings a (login_chain settings.passdb login a.answers) (for_fresh login.master settings.passdb login a.answers)

attempt_fresh : (settings : Settings) (a : Attempt) → OnOk (attempt_stage settings a)
unfolding attempt_stage opening
attempt_fresh settings a = from_fresh settings a (opening settings a) (opening_fresh a.mech settings a)

lookup_fresh : (subject : Lookup) (c : UserChain) → OnOk (lookup_stage subject c)
unfolding OnOk
lookup_fresh subject (AskUser db) = tt
lookup_fresh subject (UserFound fields) = tt
lookup_fresh subject UserNotFound = tt
lookup_fresh subject UserFailed = tt

body_fresh : (settings : Settings) (r : Request) (b : Body) → OnOk (body_stage settings r b)
unfolding OnOk
body_fresh settings r (Authenticates mech params resp texts) = attempt_fresh settings (attempt_by (mechanism_named mech settings.mechanisms) r params resp texts)
body_fresh settings r (LooksUp None) = tt
body_fresh settings r (LooksUp (Some grant)) = lookup_fresh grant.lookup (user_chain settings.userdb grant.lookup r.answers)

decision_fresh : (s : Stage) (user : Bytes) (fields : Pairs) (last : Option Bytes) → OnOk s → decision_in s ≡ Some (Success user fields last) → IsFresh fields
unfolding OnOk
decision_fresh (Awaits text) user fields last h e = absurd (none-some _ e)
decision_fresh (Asks q) user fields last h e = absurd (none-some _ e)
decision_fresh (Decided d) user fields last h e = subst (λ (x : Decision). OnOk (Decided x)) (same_Some d _ e) h

pub ok_is_not_expired : OkIsNotExpired
unfolding request_stage IsFresh
ok_is_not_expired settings r user fields last e =
    decision_fresh (body_stage settings r r.body) user fields last (body_fresh settings r r.body) (by_stage_alone settings r (Success user fields last) refl e)
