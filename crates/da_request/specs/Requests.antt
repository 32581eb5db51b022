-- Requests of clients and masters: what is known of each, its stage, and the text of its final reply.
use Rattle.std.specs.Prelude.{ℕ, Bool, true, false, ◌&&◌, not, List, Option, Some, None, option_map, option_and_then, if◌then◌else◌, nat_le, ◌==◌, codes, is_some, [], ◌∷◌, ◌++◌}
use Rattle.std.specs.List.{list_any}
use Rattle.da_base.specs.Words.{Bytes, later, passes_option, to_base64, nth}
use Rattle.da_fields.specs.FieldList.{Pairs, field}
use Rattle.da_fields.specs.Answers.{Answers, answer_fields}
use Rattle.da_msgs.specs.Replies.{mechanism_named, reply_line, master_reply_line}
use Rattle.da_userdb.specs.UserChain.{user_chain}
use Rattle.da_fields.specs.declared.answer.QueryKind.TheVariants.{User, Check}
use Rattle.da_msgs.specs.declared.kinds.Mech.{Mech}
use Rattle.da_msgs.specs.declared.client.Reply.TheVariants.{Cont as ContReply, Ok as OkReply, Fail as FailReply}
use Rattle.da_msgs.specs.declared.master.MasterReply.TheVariants.{User as UserReply, NotFound as NotFoundReply, Fail as LookupFailedReply}
use Rattle.da_passdb.specs.declared.login.Login.{Login}
use Rattle.da_userdb.specs.declared.database.Lookup.{Lookup}
use Rattle.da_userdb.specs.declared.database.UserChain.{UserChain}
use Rattle.da_userdb.specs.declared.database.UserChain.TheVariants.{Ask, Found, NotFound, Temp}
use Rattle.da_passdb.specs.Outcomes.{password_comparison, proof_password}
use Rattle.da_fields.specs.declared.answer.Answer.{Answer}
use Rattle.da_fields.specs.declared.answer.Answer.TheVariants.{Found}
use Rattle.da_fields.specs.declared.answer.QueryKind.{QueryKind}
use Rattle.da_request.specs.Attempts.{Attempt, attempt_stage, failure_code, login_in, opening, said, vars_for}
use Rattle.da_request.specs.declared.failures.FailedBy.TheVariants.{Limit as ByLimit}
use Rattle.da_request.specs.declared.request.Body.{Body}
use Rattle.da_request.specs.declared.request.Body.TheVariants.{Authenticates, LooksUp}
use Rattle.da_request.specs.declared.request.Grant.{Grant}
use Rattle.da_request.specs.declared.request.Request.{Request}
use Rattle.da_request.specs.declared.stages.Decision.{Decision}
use Rattle.da_request.specs.declared.stages.Decision.TheVariants.{Failure, Success, UserFailure, UserGiven, UserUnknown}
use Rattle.da_request.specs.declared.stages.Question.{Question}
use Rattle.da_request.specs.declared.stages.Stage.{Stage}
use Rattle.da_request.specs.declared.stages.Stage.TheVariants.{Asks, Awaits, Decided}
use Rattle.da_settings.specs.declared.settings.Settings.{Settings}

-- ---- stages

abbrev pub attempt_by : Option Mech → Request → Pairs → Option Bytes → List Bytes → Attempt
attempt_by mech r params resp texts =
    record {
      mech = mech;
      params = params;
      messages = option_and_then (λ m. said m resp texts) mech;
      random = r.random;
      start = r.start;
      answers = r.answers;
    }

-- all that the stage of a client's request depends on
abbrev pub attempt_in : Settings → Request → Body → Option Attempt
attempt_in settings r (Authenticates mech params resp texts) = Some (attempt_by (mechanism_named mech settings.mechanisms) r params resp texts)
attempt_in settings r (LooksUp grant) = None

abbrev pub attempt_of : Settings → Request → Option Attempt
attempt_of settings r = attempt_in settings r r.body

abbrev pub lookup_stage : Lookup → UserChain → Stage
lookup_stage lookup (Ask db) = Asks (record { db = db; kind = User; user = lookup.user; checked = false })
lookup_stage lookup (Found fields) = Decided (UserGiven lookup.user fields)
lookup_stage lookup NotFound = Decided UserUnknown
lookup_stage lookup Temp = Decided UserFailure

abbrev pub grant_stage : Settings → Answers → Option Grant → Stage
grant_stage settings answers None = Decided UserUnknown
grant_stage settings answers (Some grant) = lookup_stage grant.lookup (user_chain settings.userdb grant.lookup answers)

abbrev pub body_stage : Settings → Request → Body → Stage
body_stage settings r (Authenticates mech params resp texts) =
    attempt_stage settings (attempt_by (mechanism_named mech settings.mechanisms) r params resp texts)
body_stage settings r (LooksUp grant) = grant_stage settings r.answers grant

-- the stage of a request, by what is known of it alone
unfoldable pub request_stage : Settings → Request → Stage
request_stage settings r = body_stage settings r r.body

-- the login that a request makes, once its names are known
unfoldable pub login_of : Settings → Request → Option Login
login_of settings r = option_and_then (λ a. login_in (opening settings a)) (attempt_of settings r)

abbrev pub decision_in : Stage → Option Decision
decision_in (Decided d) = Some d
decision_in _ = None

abbrev pub question_in : Stage → Option Question
question_in (Asks q) = Some q
question_in _ = None

abbrev pub challenge_in : Stage → Option Bytes
challenge_in (Awaits text) = Some text
challenge_in _ = None

-- what a request is told whose limit came before a decision: its user is the login's, where what was said gives one
abbrev pub timed_failure : Settings → Request → Decision
timed_failure settings r =
    Failure (option_map (λ l. l.user) (login_of settings r)) false false false (failure_code ByLimit false) (Some (codes "Timed out"))

-- the decision: that of the limit for a request that is timed out, and else that of a decided stage
unfoldable pub decision : Settings → Request → Option Decision
decision settings r = if r.is_timed_out then Some (timed_failure settings r) else decision_in (request_stage settings r)

-- ---- when a reply is due

abbrev pub is_failure : Decision → Bool
is_failure (Failure user authz temp disabled code reason) = true
is_failure _ = false

abbrev pub is_login_success : Decision → Bool
is_login_success (Success user fields last) = true
is_login_success _ = false

-- some recorded answer has the field `nodelay`
abbrev pub has_nodelay : Answers → Bool
has_nodelay answers = list_any (λ p. is_some (field (codes "nodelay") (answer_fields p.1))) answers

-- how long a decision is held back: a failure of a client's request is delayed
unfoldable pub reply_delay : Settings → Request → ℕ
reply_delay settings r =
    if passes_option is_failure (decision settings r) && not (has_nodelay r.answers) then settings.failure_delay else 0

-- the moment from which a client's request that isn't decided is timed out
abbrev pub limit_moment : Settings → Request → ℕ
limit_moment settings r = later r.start settings.request_limit

-- when the reply to a request is due that was decided at this moment: a request that is timed out isn't delayed further
abbrev pub due_from : Settings → Request → ℕ → ℕ
due_from settings r decided = if r.is_timed_out then limit_moment settings r else later decided (reply_delay settings r)

-- the moment at which the final reply is due
abbrev pub due_moment : Settings → Request → Option ℕ
due_moment settings r = option_map (due_from settings r) r.decided

-- decided, not cancelled and not replied
abbrev pub is_held : Request → Bool
is_held r = is_some r.decided && not r.is_cancelled && not (is_some r.replied)

-- to be replied at an entry of this moment
unfoldable pub is_due : Settings → ℕ → Request → Bool
is_due settings moment r = is_held r && passes_option (λ due. nat_le due moment) (due_moment settings r)

-- open: neither cancelled nor replied
abbrev pub is_pending : Request → Bool
is_pending r = not r.is_cancelled && not (is_some r.replied)

-- open, and not decided
abbrev pub is_undecided : Request → Bool
is_undecided r = is_pending r && not (is_some r.decided)

abbrev pub is_authentication : Body → Bool
is_authentication (Authenticates mech params resp texts) = true
is_authentication (LooksUp grant) = false

-- its limit is still to come: a client's request that isn't decided. A master's request has none.
abbrev pub has_limit : Request → Bool
has_limit r = is_authentication r.body && is_undecided r

-- its limit is reached at this moment
unfoldable pub is_over_limit : Settings → ℕ → Request → Bool
is_over_limit settings moment r = has_limit r && nat_le (limit_moment settings r) moment

-- its queries may be handed out: it is neither cancelled nor timed out
abbrev pub is_wanted : Request → Bool
is_wanted r = not r.is_cancelled && not r.is_timed_out

-- a lookup that was granted for the request of this number
abbrev pub is_granted_for : ℕ → Body → Bool
is_granted_for number (LooksUp (Some grant)) = grant.request == number
is_granted_for number _ = false

-- ---- the texts of replies

-- the line of a final reply; a failure of a login has its code where the connection knows codes
abbrev pub final_line : Bool → ℕ → Decision → Bytes
final_line knows_codes id (Success user fields last) = reply_line (OkReply id user fields (option_map to_base64 last))
final_line knows_codes id (Failure user authz temp disabled code reason) =
    reply_line (FailReply id user authz temp disabled (if knows_codes then Some code else None) reason)
final_line knows_codes id (UserGiven user fields) = master_reply_line (UserReply id user fields)
final_line knows_codes id UserUnknown = master_reply_line (NotFoundReply id)
final_line knows_codes id UserFailure = master_reply_line (LookupFailedReply id)

abbrev pub challenge_line : ℕ → Bytes → Bytes
challenge_line id text = reply_line (ContReply id (to_base64 text))

abbrev pub is_of : ℕ → Request → Bool
is_of conn r = r.conn == conn

abbrev pub cancelled : Request → Request
cancelled r = record r { is_cancelled = true }

abbrev pub as_cancelled_of : ℕ → Request → Request
as_cancelled_of conn r = if is_of conn r then cancelled r else r

-- not cancelled, and replied at most 150,000 ms ago; an OK is replied by the entry that decides it
abbrev pub is_fresh : ℕ → Request → Bool
is_fresh moment r = not r.is_cancelled && passes_option (λ replied. nat_le moment (later replied 150000)) r.replied

-- what is looked up for a login that succeeded
abbrev pub lookup_with : Body → Decision → Option Lookup
lookup_with (Authenticates mech params resp texts) (Success user fields last) =
    Some (record { user = user; passdb_fields = fields; vars = vars_for user params })
lookup_with _ _ = None

abbrev pub new_request : ℕ → ℕ → ℕ → Bytes → Body → Request
new_request moment conn id random body =
    record { conn = conn; id = id; random = random; start = moment; body = body; answers = []; is_cancelled = false; is_timed_out = false; decided = None; replied = None }

abbrev pub body_with_text : Bytes → Body → Body
body_with_text text (Authenticates mech params resp texts) = Authenticates mech params resp (texts ++ text ∷ [])
body_with_text text (LooksUp grant) = LooksUp grant

abbrev pub with_text : Bytes → Request → Request
with_text text r = record r { body = body_with_text text r.body }

-- the request awaits a message of the client
abbrev pub is_awaiting : Settings → Request → Bool
is_awaiting settings r = is_undecided r && is_some (challenge_in (request_stage settings r))

abbrev pub query_password : Settings → Request → QueryKind → Option Bytes
query_password settings r Check = option_and_then (λ login. proof_password login.proof) (login_of settings r)
query_password settings r _ = None

-- whether the request's use of the answer checks a password, and then whether it matches
abbrev pub use_comparison : Settings → Request → Question → Answer → Option Bool
use_comparison settings r q answer =
    if is_authentication r.body
    then option_and_then (λ login. option_and_then (λ db. password_comparison db login q.checked answer) (nth settings.passdb q.db)) (login_of settings r)
    else None

-- the request has this answer under its database
abbrev pub with_answer : ℕ → Answer → Request → Request
with_answer db answer r = record r { answers = r.answers ++ (db, answer) ∷ [] }

-- a request that was cancelled or timed out before its stage was decided has its late answer too
abbrev pub with_late_answer : ℕ → Answer → Request → Request
with_late_answer db answer r = if is_some r.decided && not r.is_timed_out then r else with_answer db answer r

-- its limit came before a decision, and so decides it now
abbrev pub timed_out : ℕ → Request → Request
timed_out moment r = record r { is_timed_out = true; decided = Some moment }

abbrev pub timed_out_if_over : Settings → ℕ → Request → Request
timed_out_if_over settings moment r = if is_over_limit settings moment r then timed_out moment r else r

abbrev pub replied : ℕ → Request → Request
replied moment r = record r { replied = Some moment }

abbrev pub replied_if_due : Settings → ℕ → Request → Request
replied_if_due settings moment r = if is_due settings moment r then replied moment r else r

-- it is decided now, and replied where that is due at once
abbrev pub with_decision : Settings → ℕ → Request → Request
with_decision settings moment r = replied_if_due settings moment (record r { decided = Some moment })
