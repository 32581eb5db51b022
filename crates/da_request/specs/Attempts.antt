-- The course of an attempt to log in: what a client has said, what is asked, and the decision.
use Rattle.std.specs.Prelude.{ℕ, Bool, true, false, ◌&&◌, ◌||◌, List, [], ◌∷◌, ◌++◌, Option, Some, None, option_map, option_and_then, if◌then◌else◌, bytes_eq, codes}
use Rattle.da_base.specs.Words.{Bytes, hex, is_empty, from_base64, option_or_else}
use Rattle.da_fields.specs.FieldList.{Pairs, field}
use Rattle.da_fields.specs.Answers.{Answers}
use Rattle.da_names.specs.Names.{normal, split_name}
use Rattle.da_schemes.specs.Stored.{StoredPassword}
use Rattle.da_plain.specs.Plain.{plain_says}
use Rattle.da_plain.specs.Login.{login_says}
use Rattle.da_cram.specs.Cram.{cram_says, cram_challenge}
use Rattle.da_scram.specs.Scram.{request_salt}
use Rattle.da_scram.specs.Reading.{scram_says}
use Rattle.da_passdb.specs.LoginChain.{login_chain}
use Rattle.da_fields.specs.declared.said.Said.{Said}
use Rattle.da_fields.specs.declared.said.Said.TheVariants.{Challenge, Need, Proof as Proves, Bad}
use Rattle.da_msgs.specs.declared.code.Code.{Code}
use Rattle.da_msgs.specs.declared.code.Code.TheVariants.{Temp as CodeTemp, Disabled as CodeDisabled, Expired as CodeExpired, Timeout as CodeTimeout, Protocol as CodeProtocol, Authz as CodeAuthz, Credentials as CodeCredentials}
use Rattle.da_msgs.specs.declared.kinds.Mech.{Mech}
use Rattle.da_msgs.specs.declared.kinds.Mech.TheVariants.{Plain, Login as LoginMech, CramMd5, ScramSha256}
use Rattle.da_names.specs.declared.variables.Vars.{Vars}
use Rattle.da_passdb.specs.declared.chain.Chain.{Chain}
use Rattle.da_passdb.specs.declared.chain.Chain.TheVariants.{Ask, Done}
use Rattle.da_passdb.specs.declared.chain.Verdict.{Verdict}
use Rattle.da_passdb.specs.declared.chain.VerdictKind.{VerdictKind}
use Rattle.da_passdb.specs.declared.chain.VerdictKind.TheVariants.{Ok as IsOkay, Fail as IsFail, Temp as IsTemp, Disabled as IsDisabled, Expired as IsExpired}
use Rattle.da_passdb.specs.declared.login.Login.{Login}
use Rattle.da_passdb.specs.declared.login.Proof.{Proof}
use Rattle.da_passdb.specs.declared.login.Proof.TheVariants.{Plain as Password, Cram, Scram}
use Rattle.da_request.specs.declared.failures.FailedBy.{FailedBy}
use Rattle.da_request.specs.declared.failures.FailedBy.TheVariants.{Limit as ByLimit, Protocol as ByProtocol, Verdict as ByVerdict}
use Rattle.da_request.specs.declared.openings.Opening.{Opening}
use Rattle.da_request.specs.declared.openings.Opening.TheVariants.{Immediate, LogsIn}
use Rattle.da_request.specs.declared.stages.Decision.TheVariants.{Failure, Success}
use Rattle.da_request.specs.declared.stages.Stage.{Stage}
use Rattle.da_request.specs.declared.stages.Stage.TheVariants.{Asks, Awaits, Decided}
use Rattle.da_settings.specs.declared.settings.Settings.{Settings}

-- ---- what a client has said

abbrev pub with_decoded : Option Bytes → Option (List Bytes) → Option (List Bytes)
with_decoded (Some text) (Some texts) = Some (text ∷ texts)
with_decoded _ _ = None

-- the texts, each decoded from base64; None where one can't be
abbrev pub decoded : List Bytes → Option (List Bytes)
decoded [] = Some []
decoded (text ∷ texts) = with_decoded (from_base64 text) (decoded texts)

-- the text of resp= where it counts as a message: an empty one counts for PLAIN alone. None where CRAM-MD5, whose server
-- speaks first, has a text there.
abbrev pub initial_response : Mech → Option Bytes → Option (List Bytes)
initial_response mech None = Some []
initial_response Plain (Some text) = Some (text ∷ [])
initial_response CramMd5 (Some text) = if is_empty text then Some [] else None
initial_response LoginMech (Some text) = if is_empty text then Some [] else Some (text ∷ [])
initial_response ScramSha256 (Some text) = if is_empty text then Some [] else Some (text ∷ [])

-- the client's messages: that of resp=, and then those of its CONT lines; None where they are bad as a whole
unfoldable pub said : Mech → Option Bytes → List Bytes → Option (List Bytes)
said mech resp texts = option_and_then (λ first. decoded (first ++ texts)) (initial_response mech resp)

-- ---- an attempt

-- all that the course of an attempt to log in depends on
pub record Attempt : Type 0 where
  -- the mechanism, where it is among the settings'
  pub mech : Option Mech
  pub params : Pairs
  -- what the client has said, or None where that is bad as a whole
  pub messages : Option (List Bytes)
  pub random : Bytes
  pub start : ℕ
  pub answers : Answers

-- what the mechanism says to the messages, with these credentials or without
abbrev pub mechanism_says : Mech → Settings → Attempt → Option (List Bytes) → Option StoredPassword → Said
mechanism_says mech settings attempt None credentials = Bad
mechanism_says Plain settings attempt (Some messages) credentials = plain_says messages
mechanism_says LoginMech settings attempt (Some messages) credentials = login_says messages
mechanism_says CramMd5 settings attempt (Some messages) credentials =
    cram_says (cram_challenge attempt.random attempt.start settings.host) messages credentials
mechanism_says ScramSha256 settings attempt (Some messages) credentials =
    scram_says (hex attempt.random) (request_salt attempt.random) messages credentials

-- ---- names

abbrev pub both_normal : Option Bytes → Option Bytes → Option (Bytes × Option Bytes)
both_normal (Some user) (Some master) = Some (user, Some master)
both_normal _ _ = None

abbrev pub split_at : Option ℕ → Bytes → Option (Bytes × Bytes)
split_at None name = None
split_at (Some separator) name = split_name separator name

abbrev pub names_split : (Bytes → Option Bytes) → Bytes → Bytes → Option (Bytes × Bytes) → Option (Bytes × Option Bytes)
names_split to_normal name authzid None =
    if is_empty authzid || bytes_eq authzid name
    then option_map (λ user. (user, None)) (to_normal name)
    else both_normal (to_normal authzid) (to_normal name)
names_split to_normal name authzid (Some parts) =
    if is_empty authzid then both_normal (to_normal parts.0) (to_normal parts.1) else None

-- the user, and the master of a master login, where the names are valid: the first separator splits a name into user and
-- master, and without a split another authorization identity is the user, and the name the master
unfoldable pub names : Settings → Bytes → Bytes → Option (Bytes × Option Bytes)
names settings name authzid =
    names_split (normal settings.username_chars settings.username_lower) name authzid (split_at settings.master_separator name)

-- ---- the codes of failures

-- the code of a failure, by what it failed by and whether it has `authz`: the first line that applies
abbrev pub failure_code : FailedBy → Bool → Code
failure_code (ByVerdict IsTemp) authz = CodeTemp
failure_code (ByVerdict IsDisabled) authz = CodeDisabled
failure_code (ByVerdict IsExpired) authz = CodeExpired
failure_code ByLimit authz = CodeTimeout
failure_code ByProtocol authz = CodeProtocol
failure_code _ true = CodeAuthz
failure_code _ false = CodeCredentials

-- ---- before any database is asked

-- what was said is no login
abbrev pub fails_for : Bytes → Stage
fails_for reason = Decided (Failure None false false false (failure_code ByProtocol false) (Some reason))

abbrev pub login_proof : Mech → Option Bytes → Proof
login_proof ScramSha256 password = Scram
login_proof CramMd5 password = Cram
login_proof _ password = option_or_else password Cram (λ p. Password p)

-- what the variables of templates stand for; an address that isn't known is empty
abbrev pub vars_for : Bytes → Pairs → Vars
vars_for user params =
    record {
      user = user;
      service = option_or_else (field (codes "service") params) [] (λ x. x);
      rip = option_or_else (field (codes "rip") params) [] (λ x. x);
      lip = option_or_else (field (codes "lip") params) [] (λ x. x);
    }

abbrev pub opening_named : Mech → Attempt → Option Bytes → Option (Bytes × Option Bytes) → Opening
opening_named mech attempt password None = Immediate (fails_for (codes "Invalid user name"))
opening_named mech attempt password (Some n) =
    LogsIn mech (record { user = n.0; master = n.1; proof = login_proof mech password; vars = vars_for n.0 attempt.params })

abbrev pub opening_said : Mech → Settings → Attempt → Said → Opening
opening_said mech settings attempt (Challenge text) = Immediate (Awaits text)
opening_said mech settings attempt (Need name authzid password) = opening_named mech attempt password (names settings name authzid)
opening_said mech settings attempt _ = Immediate (fails_for (codes "Invalid response"))

abbrev pub opening_by : Option Mech → Settings → Attempt → Opening
opening_by None settings attempt = Immediate (fails_for (codes "Unsupported mechanism"))
opening_by (Some mech) settings attempt = opening_said mech settings attempt (mechanism_says mech settings attempt attempt.messages None)

-- what comes of an attempt before any database is asked
unfoldable pub opening : Settings → Attempt → Opening
opening settings attempt = opening_by attempt.mech settings attempt

abbrev pub login_in : Opening → Option Login
login_in (Immediate s) = None
login_in (LogsIn mech login) = Some login

-- ---- from the chain's verdict to the decision

abbrev pub is_temp : VerdictKind → Bool
is_temp IsTemp = true
is_temp _ = false

abbrev pub is_disabled : VerdictKind → Bool
is_disabled IsDisabled = true
is_disabled _ = false

-- a failure told for the chain's user
abbrev pub failure_with : Verdict → FailedBy → Option Bytes → Stage
failure_with v failed_by reason =
    Decided (Failure (Some v.user) v.authz (is_temp v.kind) (is_disabled v.kind) (failure_code failed_by v.authz) reason)

-- a failure by this verdict, with the reason of the chain's fields
abbrev pub failure : Verdict → Stage
failure v = failure_with v (ByVerdict v.kind) (field (codes "reason") v.fields)

abbrev pub failed : Verdict → Verdict
failed v = record v { kind = IsFail }

-- decided with this verdict: a success where it is Ok, with the mechanism's last message, and else a failure
abbrev pub decided_by : VerdictKind → Verdict → Option Bytes → Stage
decided_by IsOkay v last = Decided (Success v.user v.fields last)
decided_by _ v last = failure v

-- the stage once the mechanism has read the messages with credentials: a right proof leaves the chain's verdict, and a
-- wrong one is a plain failure
abbrev pub after_proof : Verdict → Said → Stage
after_proof v (Challenge text) = Awaits text
after_proof v (Proves true last) = decided_by v.kind v last
after_proof v (Proves false last) = failure (failed v)
after_proof v _ = failure_with (failed v) ByProtocol (Some (codes "Invalid response"))

abbrev pub with_credentials : Mech → Settings → Attempt → Verdict → Option StoredPassword → Stage
with_credentials mech settings attempt v None = failure (failed v)
with_credentials mech settings attempt v (Some stored) = after_proof v (mechanism_says mech settings attempt attempt.messages (Some stored))

-- the client of this mechanism proves that it knows the password, and doesn't tell it
abbrev pub has_proof : Mech → Bool
has_proof CramMd5 = true
has_proof ScramSha256 = true
has_proof _ = false

-- a chain that ended with success: Ok or Expired
abbrev pub has_success : VerdictKind → Bool
has_success IsOkay = true
has_success IsExpired = true
has_success _ = false

-- the verdict decides, but for a success whose proof is still to be read
abbrev pub after_verdict : VerdictKind → Mech → Settings → Attempt → Verdict → Stage
after_verdict kind mech settings attempt v =
    if has_success kind && has_proof mech then with_credentials mech settings attempt v v.credentials else decided_by kind v None

abbrev pub after_chain : Mech → Settings → Attempt → Chain → Stage
after_chain mech settings attempt (Ask db kind user checked) = Asks (record { db = db; kind = kind; user = user; checked = checked })
after_chain mech settings attempt (Done v) = after_verdict v.kind mech settings attempt v

abbrev pub stage_from : Settings → Attempt → Opening → Stage
stage_from settings attempt (Immediate s) = s
stage_from settings attempt (LogsIn mech login) = after_chain mech settings attempt (login_chain settings.passdb login attempt.answers)

-- the stage of an attempt: it depends on nothing else
unfoldable pub attempt_stage : Settings → Attempt → Stage
attempt_stage settings attempt = stage_from settings attempt (opening settings attempt)
