-- What comes of an event: the acts, in order, and what the session knows after it.
use Rattle.std.specs.Prelude.{ℕ, ◌+◌, ◌||◌, ◌&&◌, not, List, [], ◌∷◌, ◌++◌, length, Option, Some, None, if◌then◌else◌, ◌==◌, nat_le, nat_lt, bytes_eq, codes, is_some}
use Rattle.std.specs.List.{flat_map}
use Rattle.da_base.specs.Words.{Bytes, is_empty, before_byte, after_byte, option_or_else, to_base64}
use Rattle.da_tabline.specs.Escapes.{line_fields}
use Rattle.da_pop3.specs.State.{State, request_id}
use Rattle.da_pop3.specs.ServiceLines.{is_version, is_server, opening_of, reply_of, lookup_of}
use Rattle.da_pop3.specs.OwnLines.{version_line, pid_line, auth_line, auth_line_with, cont_line, cancel_line, request_line, plain_message}
use Rattle.da_pop3.specs.Commands.{is_word, is_argument, is_mechanism, is_base64, is_first_message, first_message}
use Rattle.da_pop3.specs.declared.event.Event.{Event}
use Rattle.da_pop3.specs.declared.event.Event.TheVariants.{Client, ClientLong, ClientEnd, Auth, Master, MailUp, MailDown}
use Rattle.da_pop3.specs.declared.event.Act.{Act}
use Rattle.da_pop3.specs.declared.event.Act.TheVariants.{Say, ToAuth, ToMaster, Start, End}
use Rattle.da_pop3.specs.declared.place.Place.{Place}
use Rattle.da_pop3.specs.declared.place.Place.TheVariants.{AtAuth, AtMaster, AtClient, Starting, Ended}
use Rattle.da_pop3.specs.declared.place.AuthPlace.TheVariants.{AuthVersion, AuthOpening, Replying}
use Rattle.da_pop3.specs.declared.place.MasterPlace.TheVariants.{MasterVersion, MasterOpening, LookingUp}
use Rattle.da_pop3.specs.declared.place.ClientPlace.TheVariants.{Command, Exchange, LastAnswer}
use Rattle.da_pop3.specs.declared.service.Opening.{Opening}
use Rattle.da_pop3.specs.declared.service.Opening.TheVariants.{Cookie, Mechanism, Done, Other}
use Rattle.da_pop3.specs.declared.service.Reply.{Reply}
use Rattle.da_pop3.specs.declared.service.Reply.TheVariants.{Challenge, Success, Refusal}
use Rattle.da_pop3.specs.declared.service.Failure.{Failure}
use Rattle.da_pop3.specs.declared.service.Failure.TheVariants.{Credentials, Temporary}
use Rattle.da_pop3.specs.declared.service.Lookup.{Lookup}
use Rattle.da_pop3.specs.declared.service.Lookup.TheVariants.{Found, Missing}

abbrev pub Turn : Type 0
Turn = List Act × State

abbrev pub moved : Place → State → State
moved place s = record s { place = place }

-- ---- failures

-- the third failure of a session ends it
abbrev pub failed : Bytes → List Act → State → Turn
failed text acts s =
    if s.failures == 2 then (acts ++ Say text ∷ End ∷ [], moved Ended s)
    else (acts ++ Say text ∷ [], record s { place = AtClient Command; failures = s.failures + 1 })

abbrev pub failure_text : Failure → Bytes
failure_text Credentials = codes "-ERR [AUTH] Authentication failed."
failure_text Temporary = codes "-ERR [SYS/TEMP] Temporary failure."

-- the client gives the exchange up
abbrev pub cancelled : State → Turn
cancelled s = failed (failure_text Credentials) (ToAuth (cancel_line (request_id s)) ∷ []) s

-- ---- on opening

-- the version comes first
abbrev pub version_turn : Place → State → List Bytes → Option Turn
version_turn next s fields = if is_version fields then Some ([], moved next s) else None

-- the opening of the auth service is over
abbrev pub greeted : State → Turn
greeted s = (ToAuth version_line ∷ ToAuth (pid_line s.pid) ∷ [], moved (AtMaster MasterVersion) s)

-- of cookies the last holds; the opening may end only after one
abbrev pub opening_turn : State → Opening → Option Turn
opening_turn s (Cookie digits) = Some ([], record s { cookie = Some digits })
opening_turn s (Mechanism name) = Some ([], record s { mechanisms = s.mechanisms ++ name ∷ [] })
opening_turn s Done = if is_some s.cookie then Some (greeted s) else None
opening_turn s Other = Some ([], s)

abbrev pub server_turn : State → List Bytes → Turn
server_turn s fields =
    if is_server fields then (ToMaster version_line ∷ Say (codes "+OK dauth ready.") ∷ [], moved (AtClient Command) s) else ([], s)

-- ---- lines of the client

abbrev pub unknown : State → Turn
unknown s = (Say (codes "-ERR Unknown command.") ∷ [], s)

-- the client's line is too long, or what would be sent for it
abbrev pub too_long : State → Turn
too_long s = (Say (codes "-ERR Line too long.") ∷ End ∷ [], moved Ended s)

abbrev pub left : State → Turn
left s = (End ∷ [], moved Ended s)

abbrev pub quitted : State → Turn
quitted s = (Say (codes "+OK Bye.") ∷ End ∷ [], moved Ended s)

-- the mechanisms behind their word (RFC 5034, section 3)
abbrev pub sasl_text : List Bytes → Bytes
sasl_text mechanisms = codes "SASL" ++ flat_map (λ name. 32 ∷ name) mechanisms

-- what the server can do (RFC 2449, section 5)
abbrev pub capabilities : State → Turn
capabilities s =
    (Say (codes "+OK") ∷ Say (codes "USER") ∷ Say (sasl_text s.mechanisms) ∷ Say (codes ".") ∷ [], s)

-- a line to the auth service, if it is one
abbrev pub asked : State → Bytes → Turn
asked s line = if nat_le (length line) 8192 then (ToAuth line ∷ [], moved (AtAuth Replying) s) else too_long s

abbrev pub named : State → Bytes → Turn
named s name = (Say (codes "+OK") ∷ [], record s { name = Some name })

abbrev pub password_turn : State → Option Bytes → Bytes → Turn
password_turn s None password = unknown s
password_turn s (Some name) password =
    asked s (auth_line_with (request_id s) (codes "PLAIN") (to_base64 (plain_message name password)))

abbrev pub auth_turn : State → Bytes → Turn
auth_turn s mechanism = if is_mechanism mechanism then asked s (auth_line (request_id s) mechanism) else unknown s

abbrev pub auth_turn_with : State → Bytes → Bytes → Turn
auth_turn_with s mechanism text =
    if is_mechanism mechanism && is_first_message text then asked s (auth_line_with (request_id s) mechanism (first_message text))
    else unknown s

-- a mechanism, or a mechanism, a space and a first message
abbrev pub auth_command : State → Bytes → Turn
auth_command s argument =
    option_or_else (after_byte 32 argument) (auth_turn s argument) (λ text. auth_turn_with s (before_byte 32 argument) text)

abbrev pub bare_command : State → Bytes → Turn
bare_command s word =
    if is_word word (codes "CAPA") then capabilities s
    else if is_word word (codes "QUIT") then quitted s
    else unknown s

abbrev pub command_with : State → Bytes → Bytes → Turn
command_with s word argument =
    if not (is_argument argument) then unknown s
    else if is_word word (codes "USER") then named s argument
    else if is_word word (codes "PASS") then password_turn s s.name argument
    else if is_word word (codes "AUTH") then auth_command s argument
    else unknown s

-- a word; or a word, a space and all that follows it
abbrev pub command_turn : State → Bytes → Turn
command_turn s line =
    option_or_else (after_byte 32 line) (bare_command s line) (λ argument. command_with s (before_byte 32 line) argument)

-- the client's answer to a challenge
abbrev pub exchange_turn : State → Bytes → Turn
exchange_turn s line =
    if bytes_eq line (codes "*") || not (is_base64 line) then cancelled s else asked s (cont_line (request_id s) line)

-- ---- lines of the auth service

-- the line that asks the master side for the user of the login under way
abbrev pub own_request : State → Bytes
own_request s = request_line (request_id s) s.pid (option_or_else s.cookie [] (λ cookie. cookie))

abbrev pub requested : State → Turn
requested s = (ToMaster (own_request s) ∷ [], moved (AtMaster LookingUp) s)

-- the client's answer to the last message, which has no text
abbrev pub last_answer_turn : State → Bytes → Turn
last_answer_turn s line = if is_empty line then requested s else cancelled s

-- a message of the auth service for the client
abbrev pub challenged : Place → Bytes → State → Turn
challenged place text s = (Say (codes "+ " ++ text) ∷ [], moved place s)

abbrev pub accepted : State → Option Bytes → Turn
accepted s None = requested s
accepted s (Some text) = challenged (AtClient LastAnswer) text s

-- a failure of an earlier id, which was cancelled, is passed over
abbrev pub reply_turn : State → Option Reply → Option Turn
reply_turn s (Some (Challenge id text)) = if id == request_id s then Some (challenged (AtClient Exchange) text s) else None
reply_turn s (Some (Refusal id failure)) =
    if nat_lt id (request_id s) then Some ([], s)
    else if id == request_id s then Some (failed (failure_text failure) [] s)
    else None
reply_turn s (Some (Success id last)) = if id == request_id s then Some (accepted s last) else None
reply_turn s None = None

-- ---- lines of the master side

abbrev pub lookup_turn : State → Option Lookup → Option Turn
lookup_turn s (Some (Found id user fields)) =
    if id == request_id s then Some (Start user fields ∷ [], moved Starting s) else None
lookup_turn s (Some (Missing id)) = if id == request_id s then Some (failed (failure_text Temporary) [] s) else None
lookup_turn s None = None

-- ---- the mail program

abbrev pub mail_started : State → Turn
mail_started s = (Say (codes "+OK Logged in.") ∷ [], moved Ended s)

abbrev pub mail_failed : State → Turn
mail_failed s = (Say (failure_text Temporary) ∷ End ∷ [], moved Ended s)

-- ---- the table

-- what comes of an event at a place; no row fits where it is None
abbrev pub row : Place → State → Event → Option Turn
row (AtAuth AuthVersion) s (Auth line) = version_turn (AtAuth AuthOpening) s (line_fields line)
row (AtAuth AuthOpening) s (Auth line) = opening_turn s (opening_of (line_fields line))
row (AtMaster MasterVersion) s (Master line) = version_turn (AtMaster MasterOpening) s (line_fields line)
row (AtMaster MasterOpening) s (Master line) = Some (server_turn s (line_fields line))
row (AtClient Command) s (Client line) = Some (command_turn s line)
row (AtClient place) s ClientEnd = Some (left s)
row (AtClient place) s ClientLong = Some (too_long s)
row (AtAuth Replying) s (Auth line) = reply_turn s (reply_of (line_fields line))
row (AtClient Exchange) s (Client line) = Some (exchange_turn s line)
row (AtClient LastAnswer) s (Client line) = Some (last_answer_turn s line)
row (AtMaster LookingUp) s (Master line) = lookup_turn s (lookup_of (line_fields line))
row Starting s MailUp = Some (mail_started s)
row Starting s MailDown = Some (mail_failed s)
row _ s _ = None

abbrev pub step : State → Event → Option Turn
step s event = row s.place s event

-- the session at its beginning
abbrev pub fresh : ℕ → State
fresh pid = record { pid = pid; place = AtAuth AuthVersion; mechanisms = []; cookie = None; name = None; failures = 0 }
