-- An OK has its answer, and a USER its grant.
use Rattle.std.proofs.Common.{◌≡◌, refl, sym, ◌∙◌, ap, Option, Some, None, Bool, true, false, true≢false, ◌&&◌, if◌then◌else◌}
use Rattle.std.proofs.lemmas.Option.{none-some, same_Some}
use Rattle.std.specs.Prelude.{option_and_then}
use Rattle.da_laws.proofs.SuccessLaw.{success_has_its_answer}
use Rattle.da_base.specs.Words.{Bytes}
use Rattle.da_fields.specs.FieldList.{Pairs}
use Rattle.da_fields.specs.declared.said.Said.{Said}
use Rattle.da_fields.specs.declared.said.Said.TheVariants.{Challenge, Need, Proof as Proven, Bad}
use Rattle.da_request.specs.Attempts.{Attempt, mechanism_says, names, opening_named, opening_said, opening_by, opening, after_proof, with_credentials, after_verdict, after_chain, stage_from, attempt_stage, login_in, decided_by, has_proof, has_success}
use Rattle.da_request.specs.declared.openings.Opening.{Opening}
use Rattle.da_request.specs.declared.openings.Opening.TheVariants.{Immediate, LogsIn}
use Rattle.da_laws.proofs.Decisions.{by_stage_alone}
use Rattle.da_request.specs.Requests.{lookup_stage, body_stage, request_stage, decision_in, decision, login_of}
use Rattle.da_laws.specs.SuccessLaws.{AllStrict, HasSuccess, OkHasItsAnswer}
use Rattle.da_settings.specs.declared.settings.Settings.{Settings}
use Rattle.da_request.specs.declared.request.Body.{Body}
use Rattle.da_request.specs.declared.request.Body.TheVariants.{Authenticates, LooksUp}
use Rattle.da_request.specs.declared.stages.Decision.TheVariants.{Success, UserGiven}
use Rattle.da_request.specs.declared.request.Grant.{Grant}
use Rattle.da_request.specs.declared.request.Request.{Request}
use Rattle.da_request.specs.declared.stages.Stage.{Stage}
use Rattle.da_request.specs.declared.stages.Stage.TheVariants.{Awaits, Asks, Decided}
use Rattle.da_msgs.specs.Replies.{mechanism_named}
use Rattle.da_msgs.specs.declared.kinds.Mech.{Mech}
use Rattle.da_passdb.specs.LoginChain.{login_chain}
use Rattle.da_passdb.specs.declared.chain.Chain.{Chain}
use Rattle.da_passdb.specs.declared.chain.Chain.TheVariants.{Ask, Done}
use Rattle.da_passdb.specs.declared.chain.Verdict.{Verdict}
use Rattle.da_passdb.specs.declared.chain.VerdictKind.{VerdictKind}
use Rattle.da_passdb.specs.declared.chain.VerdictKind.TheVariants.{Ok as IsOkay, Fail as IsFail, Temp as IsTemp, Disabled as IsDisabled, Expired as IsExpired}
use Rattle.da_passdb.specs.declared.login.Login.{Login}
use Rattle.da_schemes.specs.Stored.{StoredPassword}
use Rattle.da_userdb.specs.UserChain.{user_chain}
use Rattle.da_userdb.specs.declared.database.Lookup.{Lookup}
use Rattle.da_userdb.specs.declared.database.UserChain.{UserChain}
use Rattle.da_userdb.specs.declared.database.UserChain.TheVariants.{Ask as AskUser, Found as UserFound, NotFound as UserNotFound, Temp as UserFailed}
use Rattle.da_request.specs.Requests.{attempt_by, attempt_in}

-- what a stage decides: an OK, a USER, or neither
unfoldable pub tells_ok : Stage → Bool
tells_ok (Decided (Success user fields last)) = true
tells_ok _ = false

tells_user : Stage → Bool
tells_user (Decided (UserGiven user fields)) = true
tells_user _ = false

ok_told : (s : Stage) (user : Bytes) (fields : Pairs) (last : Option Bytes) → decision_in s ≡ Some (Success user fields last) → tells_ok s ≡ true
unfolding tells_ok
ok_told (Awaits text) user fields last e = absurd (none-some _ e)
ok_told (Asks q) user fields last e = absurd (none-some _ e)
ok_told (Decided d) user fields last e = ap (λ x. tells_ok (Decided x)) (same_Some d _ e)

user_told : (s : Stage) (user : Bytes) (fields : Pairs) → decision_in s ≡ Some (UserGiven user fields) → tells_user s ≡ true
unfolding tells_user
user_told (Awaits text) user fields e = absurd (none-some _ e)
user_told (Asks q) user fields e = absurd (none-some _ e)
user_told (Decided d) user fields e = ap (λ x. tells_user (Decided x)) (same_Some d _ e)

-- neither of the two
abbrev Untold : Stage → Type 0
Untold s = (tells_ok s ≡ false) × (tells_user s ≡ false)

-- an attempt has neither before a database is asked
OpensUntold : Opening → Type 0
OpensUntold (Immediate s) = Untold s
OpensUntold (LogsIn m login) = Unit {0}

named_untold : (m : Mech) (a : Attempt) (password : Option Bytes) (n : Option (Bytes × Option Bytes)) → OpensUntold (opening_named m a password n)
unfolding OpensUntold tells_ok tells_user
named_untold m a password None = (refl, refl)
named_untold m a password (Some n) = tt

said_untold : (m : Mech) (settings : Settings) (a : Attempt) (s : Said) → OpensUntold (opening_said m settings a s)
unfolding OpensUntold tells_ok tells_user
said_untold m settings a (Challenge text) = (refl, refl)
said_untold m settings a (Need name authzid password) = named_untold m a password (names settings name authzid)
said_untold m settings a (Proven right last) = (refl, refl)
said_untold m settings a Bad = (refl, refl)

by_untold : (o : Option Mech) (settings : Settings) (a : Attempt) → OpensUntold (opening_by o settings a)
unfolding OpensUntold tells_ok tells_user
by_untold None settings a = (refl, refl)
by_untold (Some m) settings a = said_untold m settings a (mechanism_says m settings a a.messages None)

-- ---- an OK

decided_okay : (k : VerdictKind) (v : Verdict) (last : Option Bytes) → tells_ok (decided_by k v last) ≡ true → k ≡ IsOkay
unfolding tells_ok
decided_okay IsOkay v last e = refl
decided_okay IsFail v last e = absurd (true≢false (sym e))
decided_okay IsTemp v last e = absurd (true≢false (sym e))
decided_okay IsDisabled v last e = absurd (true≢false (sym e))
decided_okay IsExpired v last e = absurd (true≢false (sym e))

proof_okay : (v : Verdict) (s : Said) → tells_ok (after_proof v s) ≡ true → v.kind ≡ IsOkay
unfolding tells_ok
proof_okay v (Challenge text) e = absurd (true≢false (sym e))
proof_okay v (Need name authzid password) e = absurd (true≢false (sym e))
proof_okay v (Proven true last) e = decided_okay v.kind v last e
proof_okay v (Proven false last) e = absurd (true≢false (sym e))
proof_okay v Bad e = absurd (true≢false (sym e))

credentials_okay : (m : Mech) (settings : Settings) (a : Attempt) (v : Verdict) (o : Option StoredPassword) → tells_ok (with_credentials m settings a v o) ≡ true → v.kind ≡ IsOkay
unfolding tells_ok
credentials_okay m settings a v None e = absurd (true≢false (sym e))
credentials_okay m settings a v (Some stored) e = proof_okay v (mechanism_says m settings a a.messages (Some stored)) e

-- a login that is told OK has the verdict Ok
pub verdict_okay : (m : Mech) (settings : Settings) (a : Attempt) (v : Verdict) → tells_ok (after_verdict v.kind m settings a v) ≡ true → v.kind ≡ IsOkay
verdict_okay m settings a v e = go (has_success v.kind && has_proof m) e
  where
    go : (b : Bool) → tells_ok (if b then with_credentials m settings a v v.credentials else decided_by v.kind v None) ≡ true → v.kind ≡ IsOkay
    go true t = credentials_okay m settings a v v.credentials t
    go false t = decided_okay v.kind v None t

chain_ok : (m : Mech) (settings : Settings) (a : Attempt) (login : Login) (c : Chain) → AllStrict settings.passdb → login_chain settings.passdb login a.answers ≡ c → tells_ok (after_chain m settings a c) ≡ true → HasSuccess settings.passdb login a.answers
unfolding tells_ok
chain_ok m settings a login (Ask db kind user checked) s e t = absurd (true≢false (sym t))
chain_ok m settings a login (Done v) s e t = success_has_its_answer settings.passdb login a.answers v s e (ap has_success (verdict_okay m settings a v t))

from_ok : (settings : Settings) (a : Attempt) (o : Opening) → OpensUntold o → AllStrict settings.passdb → tells_ok (stage_from settings a o) ≡ true → (login : Login) × (login_in o ≡ Some login) × HasSuccess settings.passdb login a.answers
unfolding OpensUntold
from_ok settings a (Immediate s) n d t = absurd (true≢false (sym t ∙ n.0))
from_ok settings a (LogsIn m login) n d t = (login, refl, chain_ok m settings a login (login_chain settings.passdb login a.answers) d refl t)

attempt_ok : (settings : Settings) (a : Attempt) → AllStrict settings.passdb → tells_ok (attempt_stage settings a) ≡ true → (login : Login) × (login_in (opening settings a) ≡ Some login) × HasSuccess settings.passdb login a.answers
unfolding attempt_stage opening
attempt_ok settings a d t = from_ok settings a (opening settings a) (by_untold a.mech settings a) d t

lookup_no : (subject : Lookup) (c : UserChain) → tells_ok (lookup_stage subject c) ≡ false
unfolding tells_ok
lookup_no subject (AskUser db) = refl
lookup_no subject (UserFound fields) = refl
lookup_no subject UserNotFound = refl
lookup_no subject UserFailed = refl

body_ok : (settings : Settings) (r : Request) (b : Body) → AllStrict settings.passdb → tells_ok (body_stage settings r b) ≡ true → (login : Login) × (option_and_then (λ a. login_in (opening settings a)) (attempt_in settings r b) ≡ Some login) × HasSuccess settings.passdb login r.answers
unfolding tells_ok
body_ok settings r (Authenticates mechanism parameters resp texts) d t = attempt_ok settings (attempt_by (mechanism_named mechanism settings.mechanisms) r parameters resp texts) d t
body_ok settings r (LooksUp None) d t = absurd (true≢false (sym t))
body_ok settings r (LooksUp (Some grant)) d t = absurd (true≢false (sym t ∙ lookup_no grant.lookup (user_chain settings.userdb grant.lookup r.answers)))

pub ok_has_its_answer : OkHasItsAnswer
unfolding request_stage login_of
ok_has_its_answer settings r user fields last d e =
    body_ok settings r r.body d (ok_told (body_stage settings r r.body) user fields last (by_stage_alone settings r (Success user fields last) refl e))

-- ---- a USER

u_decided : (k : VerdictKind) (v : Verdict) (last : Option Bytes) → tells_user (decided_by k v last) ≡ false
unfolding tells_user
u_decided IsOkay v last = refl
u_decided IsFail v last = refl
u_decided IsTemp v last = refl
u_decided IsDisabled v last = refl
u_decided IsExpired v last = refl

u_proof : (v : Verdict) (s : Said) → tells_user (after_proof v s) ≡ false
unfolding tells_user
u_proof v (Challenge text) = refl
u_proof v (Need name authzid password) = refl
u_proof v (Proven true last) = u_decided v.kind v last
u_proof v (Proven false last) = refl
u_proof v Bad = refl

u_credentials : (m : Mech) (settings : Settings) (a : Attempt) (v : Verdict) (o : Option StoredPassword) → tells_user (with_credentials m settings a v o) ≡ false
unfolding tells_user
u_credentials m settings a v None = refl
u_credentials m settings a v (Some stored) = u_proof v (mechanism_says m settings a a.messages (Some stored))

u_verdict : (k : VerdictKind) (m : Mech) (settings : Settings) (a : Attempt) (v : Verdict) → tells_user (after_verdict k m settings a v) ≡ false
u_verdict k m settings a v = go (has_success k && has_proof m)
  where
    go : (b : Bool) → tells_user (if b then with_credentials m settings a v v.credentials else decided_by k v None) ≡ false
    go true = u_credentials m settings a v v.credentials
    go false = u_decided k v None

u_chain : (m : Mech) (settings : Settings) (a : Attempt) (c : Chain) → tells_user (after_chain m settings a c) ≡ false
unfolding tells_user
u_chain m settings a (Ask db kind user checked) = refl
u_chain m settings a (Done v) = u_verdict v.kind m settings a v

u_from : (settings : Settings) (a : Attempt) (o : Opening) → OpensUntold o → tells_user (stage_from settings a o) ≡ false
unfolding OpensUntold
u_from settings a (Immediate s) n = n.1
u_from settings a (LogsIn m login) n = u_chain m settings a (login_chain settings.passdb login a.answers)

u_attempt : (settings : Settings) (a : Attempt) → tells_user (attempt_stage settings a) ≡ false
unfolding attempt_stage opening
u_attempt settings a = u_from settings a (opening settings a) (by_untold a.mech settings a)

body_user : (settings : Settings) (r : Request) (b : Body) → tells_user (body_stage settings r b) ≡ true → (grant : Grant) × (b ≡ LooksUp (Some grant))
unfolding tells_user
body_user settings r (Authenticates mechanism parameters resp texts) t = absurd (true≢false (sym t ∙ u_attempt settings (attempt_by (mechanism_named mechanism settings.mechanisms) r parameters resp texts)))
body_user settings r (LooksUp None) t = absurd (true≢false (sym t))
body_user settings r (LooksUp (Some grant)) t = (grant, refl)

-- a request of a master that is given a user is granted
pub user_is_granted : (settings : Settings) (r : Request) (user : Bytes) (fields : Pairs) → decision settings r ≡ Some (UserGiven user fields) → (grant : Grant) × (r.body ≡ LooksUp (Some grant))
unfolding request_stage
user_is_granted settings r user fields e =
    body_user settings r r.body (user_told (body_stage settings r r.body) user fields (by_stage_alone settings r (UserGiven user fields) refl e))
