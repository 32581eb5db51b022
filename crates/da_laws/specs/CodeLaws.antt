-- Laws on expired passwords, and on the codes of failures.
use Rattle.std.specs.Prelude.{◌≡◌, ◌≤◌, ◌<◌, ◌⊎◌, ◌==◌, ℕ, Bool, true, false, List, [], ◌∷◌, Option, Some, None, codes}
use Rattle.da_base.specs.Words.{Bytes, nth, passes_option}
use Rattle.da_fields.specs.FieldList.{Pairs, field}
use Rattle.da_fields.specs.declared.said.Said.{Said}
use Rattle.da_fields.specs.declared.said.Said.TheVariants.{Challenge, Proof as Proves}
use Rattle.da_laws.specs.SuccessLaws.{AllStrict, HasSuccess}
use Rattle.da_lines.specs.Grants.{granted}
use Rattle.da_msgs.specs.Replies.{reply_line}
use Rattle.da_msgs.specs.declared.client.Reply.TheVariants.{Fail as FailReply}
use Rattle.da_msgs.specs.declared.code.Code.{Code}
use Rattle.da_msgs.specs.declared.code.Code.TheVariants.{Temp, Disabled, Expired, Timeout, Protocol, Authz, Credentials}
use Rattle.da_msgs.specs.declared.kinds.Mech.{Mech}
use Rattle.da_passdb.specs.LoginChain.{login_chain}
use Rattle.da_passdb.specs.declared.chain.Chain.TheVariants.{Done}
use Rattle.da_passdb.specs.declared.chain.Verdict.{Verdict}
use Rattle.da_passdb.specs.declared.chain.VerdictKind.TheVariants.{Expired as IsExpired}
use Rattle.da_passdb.specs.declared.login.Login.{Login}
use Rattle.da_play.specs.Effects.{reply_lines}
use Rattle.da_request.specs.Attempts.{Attempt, has_proof, has_success, mechanism_says, opening}
use Rattle.da_request.specs.Requests.{attempt_of, decision, is_login_success, login_of}
use Rattle.da_request.specs.declared.openings.Opening.TheVariants.{Immediate, LogsIn}
use Rattle.da_request.specs.declared.request.Request.{Request}
use Rattle.da_request.specs.declared.stages.Decision.TheVariants.{Failure, Success}
use Rattle.da_request.specs.declared.stages.Stage.{Stage}
use Rattle.da_schemes.specs.Stored.{StoredPassword}
use Rattle.da_settings.specs.declared.settings.Settings.{Settings}
use Rattle.da_tables.specs.declared.connections.Connection.{Connection}
use Rattle.da_tables.specs.declared.tables.Tables.{Tables}

-- ---- where a login's chain of databases ended

-- the chain of the request's login, by this mechanism, ended with this verdict
pub record EndsWith (settings : Settings) (r : Request) (mech : Mech) (v : Verdict) : Type 0 where
  pub attempt : Attempt
  pub attempts : attempt_of settings r ≡ Some attempt
  pub login : Login
  pub opens : opening settings attempt ≡ LogsIn mech login
  pub ends : login_chain settings.passdb login attempt.answers ≡ Done v

-- the mechanism says this to the messages of the request, read with the stored password of the verdict
pub record SaysWith (settings : Settings) (r : Request) (mech : Mech) (v : Verdict) (said : Said) : Type 0 where
  pub attempt : Attempt
  pub attempts : attempt_of settings r ≡ Some attempt
  pub stored : StoredPassword
  pub is_stored : v.credentials ≡ Some stored
  pub says : mechanism_says mech settings attempt attempt.messages (Some stored) ≡ said

-- ---- expired passwords

-- nobody is told OK whose fields say that the password is expired
abbrev pub OkIsNotExpired : Type 0
OkIsNotExpired =
    (settings : Settings) (r : Request) (user : Bytes) (fields : Pairs) (last : Option Bytes) →
    decision settings r ≡ Some (Success user fields last) → field (codes "expired") fields ≡ None

-- a request whose chain ended with Expired isn't told OK
abbrev pub ExpiredIsNotOk : Type 0
ExpiredIsNotOk =
    (settings : Settings) (r : Request) (mech : Mech) (v : Verdict) → EndsWith settings r mech v → v.kind ≡ IsExpired →
    passes_option is_login_success (decision settings r) ≡ false

-- and no master is granted it
abbrev pub ExpiredIsNotGranted : Type 0
ExpiredIsNotGranted =
    (settings : Settings) (moment : ℕ) (tables : Tables) (pid client : ℕ) (cookie : Bytes) (n : ℕ) (r : Request) (mech : Mech) (v : Verdict) →
    nth tables.requests n ≡ Some r → EndsWith settings r mech v → v.kind ≡ IsExpired →
    passes_option (λ grant. grant.request == n) (granted settings moment tables pid client cookie) ≡ false

-- the request is decided with the verdict Expired: its chain ended so, and where its mechanism has a proof, that is right
pub record IsToldExpired (settings : Settings) (r : Request) : Type 0 where
  pub mech : Mech
  pub verdict : Verdict
  pub ends : EndsWith settings r mech verdict
  pub is_expired : verdict.kind ≡ IsExpired
  pub is_in_time : r.is_timed_out ≡ false
  pub is_proven : has_proof mech ≡ true → (last : Option Bytes) × SaysWith settings r mech verdict (Proves true last)

-- where failures let nobody in, a request that is told that its password is expired has a recorded answer that is a success
-- for its own login, and its proof is right: a wrong password or proof isn't told so
abbrev pub ExpiredHasItsAnswer : Type 0
ExpiredHasItsAnswer =
    (settings : Settings) (r : Request) (user : Option Bytes) (authz temp disabled : Bool) (reason : Option Bytes) →
    AllStrict settings.passdb → decision settings r ≡ Some (Failure user authz temp disabled Expired reason) →
    (login : Login) × (login_of settings r ≡ Some login) × HasSuccess settings.passdb login r.answers × IsToldExpired settings r

-- ---- the table of codes

-- a challenge, or a proof, right or wrong
abbrev pub is_message : Said → Bool
is_message (Challenge text) = true
is_message (Proves right last) = true
is_message _ = false

-- what was said makes no login: its mechanism isn't among the settings', what it says is bad, or its names aren't valid
abbrev pub MakesNoLogin : Settings → Request → Type 0
MakesNoLogin settings r = (attempt : Attempt) × (stage : Stage) × (attempt_of settings r ≡ Some attempt) × (opening settings attempt ≡ Immediate stage)

-- what was said is bad once it is read with the stored password
pub record IsBadWithStored (settings : Settings) (r : Request) : Type 0 where
  pub mech : Mech
  pub verdict : Verdict
  pub ends : EndsWith settings r mech verdict
  pub is_success : has_success verdict.kind ≡ true
  pub is_by_proof : has_proof mech ≡ true
  pub said : Said
  pub says : SaysWith settings r mech verdict said
  pub is_bad : is_message said ≡ false

-- the lines of the table, in order
abbrev pub table : List Code
table = Temp ∷ Disabled ∷ Expired ∷ Timeout ∷ Protocol ∷ Authz ∷ Credentials ∷ []

-- the line of a code applies to a request that fails with these fields
abbrev pub Applies : Settings → Request → Bool → Bool → Bool → Code → Type 0
Applies settings r authz temp disabled Temp = temp ≡ true
Applies settings r authz temp disabled Disabled = disabled ≡ true
Applies settings r authz temp disabled Expired = IsToldExpired settings r
Applies settings r authz temp disabled Timeout = r.is_timed_out ≡ true
Applies settings r authz temp disabled Protocol = MakesNoLogin settings r ⊎ IsBadWithStored settings r
Applies settings r authz temp disabled Authz = authz ≡ true
Applies settings r authz temp disabled Credentials = Unit {0}

-- the first of these codes whose line applies
abbrev pub IsFirst : (Code → Type 0) → List Code → Code → Type 0
IsFirst applies [] code = ⊥
IsFirst applies (c ∷ cs) code = ((c ≡ code) × applies c) ⊎ ((applies c → ⊥) × IsFirst applies cs code)

-- the code of a failure is that of the first line of the table that applies
abbrev pub CodesAreOfTheTable : Type 0
CodesAreOfTheTable =
    (settings : Settings) (r : Request) (user : Option Bytes) (authz temp disabled : Bool) (code : Code) (reason : Option Bytes) →
    decision settings r ≡ Some (Failure user authz temp disabled code reason) →
    IsFirst (Applies settings r authz temp disabled) table code

-- ---- who is told

-- on a connection whose client said a minor version of 2 or more, a failure is told with its code
abbrev pub CodesAreTold : Type 0
CodesAreTold =
    (settings : Settings) (tables : Tables) (n : ℕ) (r : Request) (c : Connection) (minor : ℕ)
    (user : Option Bytes) (authz temp disabled : Bool) (code : Code) (reason : Option Bytes) →
    nth tables.requests n ≡ Some r → nth tables.connections r.conn ≡ Some c → c.minor ≡ Some minor → 2 ≤ minor →
    decision settings r ≡ Some (Failure user authz temp disabled code reason) →
    reply_lines settings tables n ≡ (r.conn, reply_line (FailReply r.id user authz temp disabled (Some code) reason)) ∷ []

-- on one whose client said a lesser minor version, or none, it is told without
abbrev pub OthersSeeNoCode : Type 0
OthersSeeNoCode =
    (settings : Settings) (tables : Tables) (n : ℕ) (r : Request) (c : Connection)
    (user : Option Bytes) (authz temp disabled : Bool) (code : Code) (reason : Option Bytes) →
    nth tables.requests n ≡ Some r → nth tables.connections r.conn ≡ Some c → ((minor : ℕ) → c.minor ≡ Some minor → minor < 2) →
    decision settings r ≡ Some (Failure user authz temp disabled code reason) →
    reply_lines settings tables n ≡ (r.conn, reply_line (FailReply r.id user authz temp disabled None reason)) ∷ []
