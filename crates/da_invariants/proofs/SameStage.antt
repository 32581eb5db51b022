-- What a request's stage and its login depend on.
use Rattle.std.proofs.Common.{◌≡◌, refl, ◌∙◌, ap, ℕ, List, Option, Some, None, option_and_then}
use Rattle.da_base.specs.Words.{Bytes}
use Rattle.da_fields.specs.Answers.{Answers}
use Rattle.da_fields.specs.declared.said.Said.{Said}
use Rattle.da_fields.specs.declared.said.Said.TheVariants.{Challenge, Need, Proof as Proves, Bad}
use Rattle.da_msgs.specs.Replies.{mechanism_named}
use Rattle.da_msgs.specs.declared.kinds.Mech.{Mech}
use Rattle.da_msgs.specs.declared.kinds.Mech.TheVariants.{Plain, Login as LoginMech, CramMd5, ScramSha256}
use Rattle.da_request.specs.Attempts.{Attempt, login_in, mechanism_says, names, opening, opening_by, opening_named, opening_said}
use Rattle.da_request.specs.Requests.{attempt_by, attempt_in, body_stage, login_of, request_stage}
use Rattle.da_request.specs.declared.request.Body.{Body}
use Rattle.da_request.specs.declared.request.Body.TheVariants.{Authenticates, LooksUp}
use Rattle.da_request.specs.declared.request.Request.{Request}
use Rattle.da_settings.specs.declared.settings.Settings.{Settings}

-- the stage depends on what the lines say of the request alone
pub same_stage : (settings : Settings) (r s : Request) → s.random ≡ r.random → s.start ≡ r.start → s.body ≡ r.body → s.answers ≡ r.answers → request_stage settings s ≡ request_stage settings r
unfolding request_stage
same_stage settings r s x t b a =
    ap (body_stage settings s) b
    ∙ ap (λ (o : Answers). body_stage settings (record s { answers = o }) r.body) a
    ∙ ap (λ (o : Bytes). body_stage settings (record s { answers = r.answers; random = o }) r.body) x
    ∙ ap (λ (o : ℕ). body_stage settings (record s { answers = r.answers; random = r.random; start = o }) r.body) t
    ∙ stage_by r.body
  where
    stage_by : (b : Body) → body_stage settings (record s { answers = r.answers; random = r.random; start = r.start }) b ≡ body_stage settings r b
    stage_by (Authenticates mech params resp texts) = refl
    stage_by (LooksUp grant) = refl

-- ---- a login is made before any answer

says_before : (mech : Mech) (settings : Settings) (a : Attempt) (answers : Answers) (messages : Option (List Bytes)) → mechanism_says mech settings (record a { answers = answers }) messages None ≡ mechanism_says mech settings a messages None
says_before mech settings a answers None = refl
says_before Plain settings a answers (Some messages) = refl
says_before LoginMech settings a answers (Some messages) = refl
says_before CramMd5 settings a answers (Some messages) = refl
says_before ScramSha256 settings a answers (Some messages) = refl

named_before : (mech : Mech) (a : Attempt) (answers : Answers) (password : Option Bytes) (n : Option (Bytes × Option Bytes)) → opening_named mech (record a { answers = answers }) password n ≡ opening_named mech a password n
named_before mech a answers password None = refl
named_before mech a answers password (Some n) = refl

said_before : (mech : Mech) (settings : Settings) (a : Attempt) (answers : Answers) (said : Said) → opening_said mech settings (record a { answers = answers }) said ≡ opening_said mech settings a said
said_before mech settings a answers (Challenge text) = refl
said_before mech settings a answers (Need name authzid password) = named_before mech a answers password (names settings name authzid)
said_before mech settings a answers (Proves right last) = refl
said_before mech settings a answers Bad = refl

opened_before : (mech : Option Mech) (settings : Settings) (a : Attempt) (answers : Answers) → opening_by mech settings (record a { answers = answers }) ≡ opening_by mech settings a
opened_before None settings a answers = refl
opened_before (Some mech) settings a answers =
    ap (opening_said mech settings (record a { answers = answers })) (says_before mech settings a answers a.messages)
    ∙ said_before mech settings a answers (mechanism_says mech settings a a.messages None)

-- the login depends on what the lines say of the request, and on no answer
pub same_login : (settings : Settings) (r s : Request) → s.random ≡ r.random → s.start ≡ r.start → s.body ≡ r.body → login_of settings s ≡ login_of settings r
unfolding login_of opening
same_login settings r s x t b =
    ap (λ (o : Body). option_and_then (λ a. login_in (opening settings a)) (attempt_in settings s o)) b
    ∙ ap (λ (o : Bytes). option_and_then (λ a. login_in (opening settings a)) (attempt_in settings (record s { random = o }) r.body)) x
    ∙ ap (λ (o : ℕ). option_and_then (λ a. login_in (opening settings a)) (attempt_in settings (record s { random = r.random; start = o }) r.body)) t
    ∙ by_body r.body
  where
    by_body : (b : Body) → option_and_then (λ a. login_in (opening settings a)) (attempt_in settings (record s { random = r.random; start = r.start }) b)
        ≡ option_and_then (λ a. login_in (opening settings a)) (attempt_in settings r b)
    by_body (Authenticates mech params resp texts) =
        ap login_in (opened_before (mechanism_named mech settings.mechanisms) settings (attempt_by (mechanism_named mech settings.mechanisms) r params resp texts) s.answers)
    by_body (LooksUp grant) = refl
