-- What every step of a session keeps.
use Rattle.std.proofs.Common.{◌≡◌, ℕ, ◌+◌, ◌≤◌, Bool, true, false, not, ◌&&◌, ◌||◌, List, [], ◌∷◌, ◌++◌, length, Option, Some, None, cond, eqb, leb, ltb, refl, sym, ap, ◌∙◌, subst, inl, inr, arith}
use Rattle.std.specs.Prelude.{bytes_eq, codes, is_some}
use Rattle.std.proofs.lemmas.Bool.{eqb-true, false≢true}
use Rattle.da_base.specs.Words.{Bytes, option_or_else, before_byte, after_byte, is_empty, begins_with, to_base64}
use Rattle.da_tabline.specs.Escapes.{line_fields}
use Rattle.da_pop3.specs.State.{State, request_id}
use Rattle.da_pop3.specs.ServiceLines.{is_version, is_server, opening_of, reply_of, lookup_of}
use Rattle.da_pop3.specs.OwnLines.{auth_line, auth_line_with, cont_line, cancel_line, request_line, plain_message}
use Rattle.da_pop3.specs.Commands.{is_word, is_argument, is_mechanism, is_base64, is_first_message, first_message}
use Rattle.da_pop3.specs.Table.{Turn, moved, failed, failure_text, cancelled, version_turn, opening_turn, server_turn, unknown, too_long, left, asked, password_turn, auth_command, bare_command, command_with, command_turn, exchange_turn, requested, last_answer_turn, accepted, reply_turn, lookup_turn, mail_started, mail_failed, row}
use Rattle.da_pop3.specs.Sessions.{Came, Did, Past, Run, with_acts, after_turn, run_of, past_of, starts, last_to_master, is_opened, opening_cookie}
use Rattle.da_pop3.specs.SessionLaws.{IsAuth, auths, EachAuthIsNext, IsUnderWay, WasToldOk, SpellsOk, SpellsUser, IsDue, EachStartIsDue}
use Rattle.da_pop3.specs.declared.event.Event.{Event}
use Rattle.da_pop3.specs.declared.event.Event.TheVariants.{Client, ClientLong, ClientEnd, Auth, Master, MailUp, MailDown}
use Rattle.da_pop3.specs.declared.event.Act.TheVariants.{ToAuth}
use Rattle.da_pop3.specs.declared.place.Place.{Place}
use Rattle.da_pop3.specs.declared.place.Place.TheVariants.{AtAuth, AtMaster, AtClient, Starting, Ended}
use Rattle.da_pop3.specs.declared.place.AuthPlace.TheVariants.{AuthVersion, AuthOpening, Replying}
use Rattle.da_pop3.specs.declared.place.MasterPlace.TheVariants.{MasterVersion, MasterOpening, LookingUp}
use Rattle.da_pop3.specs.declared.place.ClientPlace.TheVariants.{Command, Exchange, LastAnswer}
use Rattle.da_pop3.specs.declared.service.Opening.{Opening}
use Rattle.da_pop3.specs.declared.service.Opening.TheVariants.{Cookie, Mechanism, Done, Other}
use Rattle.da_pop3.specs.declared.service.Reply.{Reply}
use Rattle.da_pop3.specs.declared.service.Reply.TheVariants.{Challenge, Success, Refusal}
use Rattle.da_pop3.specs.declared.service.Lookup.{Lookup}
use Rattle.da_pop3.specs.declared.service.Lookup.TheVariants.{Found, Missing}
use Rattle.da_pop3.proofs.ServiceReading.{version_is_other, success-spells, found-spells}

-- ---- what holds between two steps

-- how often the mail program was started, at each place
abbrev pub StartsAt : Place → ℕ → Type 0
StartsAt (AtAuth place) n = n ≡ 0
StartsAt (AtMaster place) n = n ≡ 0
StartsAt (AtClient place) n = n ≡ 0
StartsAt Starting n = n ≤ 1
StartsAt Ended n = n ≤ 1

-- the opening is going on, and the cookie is the last so far
abbrev pub IsOpening : Option Bytes → Past → Type 0
IsOpening cookie past = (is_opened past ≡ false) × (opening_cookie past ≡ cookie)

-- the opening has ended, and the cookie is its own
abbrev pub IsOpened : Option Bytes → Past → Type 0
IsOpened cookie past = (digits : Bytes) × (cookie ≡ Some digits) × (is_opened past ≡ true) × (opening_cookie past ≡ Some digits)

abbrev pub OpeningAt : Place → Option Bytes → Past → Type 0
OpeningAt (AtAuth AuthVersion) cookie past = IsOpening cookie past
OpeningAt (AtAuth AuthOpening) cookie past = IsOpening cookie past
OpeningAt (AtAuth Replying) cookie past = IsOpened cookie past
OpeningAt (AtMaster place) cookie past = IsOpened cookie past
OpeningAt (AtClient place) cookie past = IsOpened cookie past
OpeningAt Starting cookie past = IsOpened cookie past
OpeningAt Ended cookie past = IsOpened cookie past

-- the login under way, at each place
abbrev pub LoginAt : Place → ℕ → ℕ → Option Bytes → Past → Type 0
LoginAt (AtAuth Replying) id pid cookie past = IsUnderWay id past
LoginAt (AtClient Exchange) id pid cookie past = IsUnderWay id past
LoginAt (AtClient LastAnswer) id pid cookie past = IsUnderWay id past × WasToldOk id past
LoginAt (AtMaster LookingUp) id pid cookie past =
    IsUnderWay id past × WasToldOk id past × (last_to_master past ≡ Some (request_line id pid (option_or_else cookie [] (λ c. c))))
LoginAt _ id pid cookie past = Unit {0}

-- how many AUTH lines were sent, at each place: one more than have failed, where a login is under way
abbrev pub SentAt : Place → ℕ → ℕ → Type 0
SentAt (AtAuth Replying) failures n = n ≡ failures + 1
SentAt (AtAuth AuthVersion) failures n = n ≡ failures
SentAt (AtAuth AuthOpening) failures n = n ≡ failures
SentAt (AtMaster LookingUp) failures n = n ≡ failures + 1
SentAt (AtMaster MasterVersion) failures n = n ≡ failures
SentAt (AtMaster MasterOpening) failures n = n ≡ failures
SentAt (AtClient Command) failures n = n ≡ failures
SentAt (AtClient Exchange) failures n = n ≡ failures + 1
SentAt (AtClient LastAnswer) failures n = n ≡ failures + 1
SentAt Starting failures n = Unit {0}
SentAt Ended failures n = Unit {0}

pub record IsKept (pid : ℕ) (s : State) (past : Past) : Type 0 where
  pub pid_is : s.pid ≡ pid
  pub due : EachStartIsDue pid past
  pub few : StartsAt s.place (starts past)
  pub opening : OpeningAt s.place s.cookie past
  pub login : LoginAt s.place (request_id s) s.pid s.cookie past
  pub ids : EachAuthIsNext past
  pub sent : SentAt s.place s.failures (auths past)

-- what holds after the opening and before a start, whatever the place
abbrev Stands : ℕ → State → Past → Type 0
Stands pid s past = (s.pid ≡ pid) × EachStartIsDue pid past × (starts past ≡ 0) × IsOpened s.cookie past × EachAuthIsNext past

-- after the acts of a turn, which follow this past
record Follows (pid : ℕ) (past : Past) (turn : Turn) : Type 0 where
  pub kept : IsKept pid turn.1 (with_acts turn.0 past)

-- after an event, whether a row fits it or not
record Passes (pid : ℕ) (run : Run) (event : Event) (turn : Option Turn) : Type 0 where
  pub kept : IsKept pid (after_turn run event turn).state (after_turn run event turn).past

passes : (pid : ℕ) (run : Run) (event : Event) (turn : Turn) → Follows pid (Came event ∷ run.past) turn → Passes pid run event (Some turn)
passes pid run event turn f = record { kept = f.kept }

refused : (pid : ℕ) (run : Run) (event : Event) → IsKept pid run.state run.past → Passes pid run event None
refused pid run event k = record { kept = k }

-- ---- by cases

by_test : {A : Type 0} (P : A → Type 0) (b : Bool) (x y : A) → (b ≡ true → P x) → P y → P (cond b x y)
by_test P true x y holds fails = holds refl
by_test P false x y holds fails = fails

by_option : {A B : Type 0} (P : B → Type 0) (o : Option A) (d : B) (f : A → B) → P d → ((x : A) → P (f x)) → P (option_or_else o d f)
by_option P None d f at_none at_some = at_none
by_option P (Some x) d f at_none at_some = at_some x

some_is : (o : Option Bytes) → is_some o ≡ true → (x : Bytes) × (o ≡ Some x)
some_is None h = cc
some_is (Some x) h = (x, refl)

abbrev second : Bytes → ℕ
second (x ∷ y ∷ rest) = y
second _ = 0

cont_is_no_cancel : (id : ℕ) (text : Bytes) → cont_line id text ≡ cancel_line id → ⊥
cont_is_no_cancel id text h = let never : ◌≡◌ {A = ℕ} 79 65 = ap second h in omega (arith, never)

auth-is : (id : ℕ) (mechanism : Bytes) → IsAuth id (auth_line id mechanism)
auth-is id mechanism = (mechanism ∷ codes "service=pop3" ∷ [], refl)

auth_with-is : (id : ℕ) (mechanism text : Bytes) → IsAuth id (auth_line_with id mechanism text)
auth_with-is id mechanism text = (mechanism ∷ codes "service=pop3" ∷ (codes "resp=" ++ text) ∷ [], refl)

not_auth : {A : Type 0} → false ≡ true → A
not_auth h = absurd (false≢true h)

-- ---- turns

ends : (pid : ℕ) (s : State) (past : Past) → Stands pid s past → IsKept pid (moved Ended s) past
ends pid s past st = record { pid_is = st.0; due = st.1; few = omega (arith, st.2); opening = st.3; login = tt; ids = st.4; sent = tt }

awaits_command : (pid : ℕ) (s : State) (past : Past) → Stands pid s past → auths past ≡ s.failures → IsKept pid (moved (AtClient Command) s) past
awaits_command pid s past st sent =
    record { pid_is = st.0; due = st.1; few = st.2; opening = st.3; login = tt; ids = st.4; sent = sent }

fails_at_once : (pid : ℕ) (s : State) (past : Past) (text : Bytes) → Stands pid s past → auths past ≡ s.failures + 1
    → Follows pid past (failed text [] s)
fails_at_once pid s past text st sent =
    by_test (Follows pid past) (eqb s.failures 2) _ _ (λ e. record { kept = ends pid s _ st })
    (record { kept = record { pid_is = st.0; due = st.1; few = st.2; opening = st.3; login = tt; ids = st.4; sent = sent } })

cancels : (pid : ℕ) (s : State) (past : Past) → Stands pid s past → auths past ≡ s.failures + 1 → Follows pid past (cancelled s)
cancels pid s past st sent =
    let stands : Stands pid s (Did (ToAuth (cancel_line (request_id s))) ∷ past) = (st.0, st.1, st.2, st.3, (λ h. not_auth h, st.4)) in
    by_test (Follows pid past) (eqb s.failures 2) _ _ (λ e. record { kept = ends pid s _ stands })
    (record { kept = record { pid_is = st.0; due = st.1; few = st.2; opening = st.3; login = tt; ids = stands.4; sent = sent } })

breaks_off : (pid : ℕ) (s : State) (past : Past) → Stands pid s past → Follows pid past (too_long s)
breaks_off pid s past st = record { kept = ends pid s _ st }

leaves : (pid : ℕ) (s : State) (past : Past) → Stands pid s past → Follows pid past (left s)
leaves pid s past st = record { kept = ends pid s _ st }

asks : (pid : ℕ) (s : State) (past : Past) (line : Bytes) → Stands pid s past → IsUnderWay (request_id s) (Did (ToAuth line) ∷ past)
    → (begins_with (codes "AUTH") line ≡ true → IsAuth (auths past + 1) line) → auths (Did (ToAuth line) ∷ past) ≡ s.failures + 1
    → Follows pid past (asked s line)
asks pid s past line st under_way is_next sent =
    by_test (Follows pid past) (leb (length line) 8192) _ _
    (λ e. record { kept = record { pid_is = st.0; due = st.1; few = st.2; opening = st.3; login = under_way; ids = (is_next, st.4); sent = sent } })
    (breaks_off pid s past st)

-- the line is an AUTH
asks_anew : (pid : ℕ) (s : State) (past : Past) (line : Bytes) → Stands pid s past → auths past ≡ s.failures
    → begins_with (codes "AUTH") line ≡ true → IsAuth (request_id s) line → Follows pid past (asked s line)
asks_anew pid s past line st sent begun is_auth =
    asks pid s past line st (inl is_auth) (λ h. subst (λ n. IsAuth (n + 1) line) (sym sent) is_auth) (rw begun (ap (λ n. n + 1) sent))

requests : (pid : ℕ) (s : State) (past : Past) → Stands pid s past → auths past ≡ s.failures + 1 → IsUnderWay (request_id s) past
    → WasToldOk (request_id s) past → Follows pid past (requested s)
requests pid s past st sent under_way okay =
    record { kept = record { pid_is = st.0; due = st.1; few = st.2; opening = st.3; login = (under_way, okay, refl); ids = st.4; sent = sent } }

-- ---- commands

refuses : (pid : ℕ) (s : State) (past : Past) → Stands pid s past → auths past ≡ s.failures → Follows pid past (unknown (moved (AtClient Command) s))
refuses pid s past st sent = record { kept = awaits_command pid s _ st sent }

sends_password : (pid : ℕ) (s : State) (past : Past) (name : Option Bytes) (password : Bytes) → Stands pid s past → auths past ≡ s.failures
    → Follows pid past (password_turn (moved (AtClient Command) s) name password)
sends_password pid s past None password st sent = refuses pid s past st sent
sends_password pid s past (Some name) password st sent =
    let text = to_base64 (plain_message name password) in
    asks_anew pid (moved (AtClient Command) s) past (auth_line_with (request_id s) (codes "PLAIN") text) st sent refl
    (auth_with-is (request_id s) (codes "PLAIN") text)

begins : (pid : ℕ) (s : State) (past : Past) (argument : Bytes) → Stands pid s past → auths past ≡ s.failures
    → Follows pid past (auth_command (moved (AtClient Command) s) argument)
begins pid s past argument st sent =
    let id = request_id s in
    let name = before_byte 32 argument in
    let base = moved (AtClient Command) s in
    by_option (Follows pid past) (after_byte 32 argument) _ _
    (by_test (Follows pid past) (is_mechanism argument) _ _
    (λ e. asks_anew pid base past (auth_line id argument) st sent refl (auth-is id argument)) (refuses pid s past st sent))
    (λ text.
    by_test (Follows pid past) (is_mechanism name && is_first_message text) _ _
    (λ e. asks_anew pid base past (auth_line_with id name (first_message text)) st sent refl (auth_with-is id name (first_message text)))
    (refuses pid s past st sent))

commands_bare : (pid : ℕ) (s : State) (past : Past) (word : Bytes) → Stands pid s past → auths past ≡ s.failures
    → Follows pid past (bare_command (moved (AtClient Command) s) word)
commands_bare pid s past word st sent =
    by_test (Follows pid past) (is_word word (codes "CAPA")) _ _ (λ e. record { kept = awaits_command pid s _ st sent })
    (by_test (Follows pid past) (is_word word (codes "QUIT")) _ _ (λ e. record { kept = ends pid s _ st }) (refuses pid s past st sent))

commands_with : (pid : ℕ) (s : State) (past : Past) (word argument : Bytes) → Stands pid s past → auths past ≡ s.failures
    → Follows pid past (command_with (moved (AtClient Command) s) word argument)
commands_with pid s past word argument st sent =
    by_test (Follows pid past) (not (is_argument argument)) _ _ (λ e. refuses pid s past st sent)
    (by_test (Follows pid past) (is_word word (codes "USER")) _ _
    (λ e. record { kept = record { pid_is = st.0; due = st.1; few = st.2; opening = st.3; login = tt; ids = st.4; sent = sent } })
    (by_test (Follows pid past) (is_word word (codes "PASS")) _ _ (λ e. sends_password pid s past s.name argument st sent)
    (by_test (Follows pid past) (is_word word (codes "AUTH")) _ _ (λ e. begins pid s past argument st sent) (refuses pid s past st sent))))

commands : (pid : ℕ) (s : State) (past : Past) (line : Bytes) → Stands pid s past → auths past ≡ s.failures
    → Follows pid past (command_turn (moved (AtClient Command) s) line)
commands pid s past line st sent =
    by_option (Follows pid past) (after_byte 32 line) _ _ (commands_bare pid s past line st sent)
    (λ argument. commands_with pid s past (before_byte 32 line) argument st sent)

-- ---- exchanges

answers : (pid : ℕ) (s : State) (past : Past) (line : Bytes) → Stands pid s past → auths past ≡ s.failures + 1
    → IsUnderWay (request_id s) past → Follows pid past (exchange_turn s line)
answers pid s past line st sent under_way =
    by_test (Follows pid past) (bytes_eq line (codes "*") || not (is_base64 line)) _ _ (λ e. cancels pid s past st sent)
    (asks pid s past (cont_line (request_id s) line) st (inr (cont_is_no_cancel (request_id s) line, under_way)) (λ h. not_auth h) sent)

answers_last : (pid : ℕ) (s : State) (past : Past) (line : Bytes) → Stands pid s past → auths past ≡ s.failures + 1
    → IsUnderWay (request_id s) past → WasToldOk (request_id s) past → Follows pid past (last_answer_turn s line)
answers_last pid s past line st sent under_way okay =
    by_test (Follows pid past) (is_empty line) _ _ (λ e. requests pid s past st sent under_way okay) (cancels pid s past st sent)

-- ---- lines of the auth service

-- the opening stays over, whatever the auth service says
stays_opened : (cookie : Option Bytes) (past : Past) (line : Bytes) → IsOpened cookie past → IsOpened cookie (Came (Auth line) ∷ past)
stays_opened cookie past line o = (o.0, o.1, rw o.2 refl, rw o.2 o.3)

begins_opening : (pid : ℕ) (s : State) (past : Past) (line : Bytes) → IsKept pid (moved (AtAuth AuthVersion) s) past
    → Passes pid (record { state = moved (AtAuth AuthVersion) s; past = past }) (Auth line) (version_turn (AtAuth AuthOpening) (moved (AtAuth AuthVersion) s) (line_fields line))
begins_opening pid s past line k =
    by_test (Passes pid (record { state = moved (AtAuth AuthVersion) s; past = past }) (Auth line)) (is_version (line_fields line)) _ _
    (λ e.
    let other = version_is_other (line_fields line) e in
    record { kept = record { pid_is = k.pid_is; due = k.due; few = k.few; opening = (rw (k.opening.0, other) refl, rw (k.opening.0, other) k.opening.1); login = tt; ids = k.ids; sent = k.sent } })
    (refused pid _ _ k)

opens : (pid : ℕ) (s : State) (past : Past) (line : Bytes) (opening : Opening) → opening_of (line_fields line) ≡ opening
    → IsKept pid (moved (AtAuth AuthOpening) s) past
    → Passes pid (record { state = moved (AtAuth AuthOpening) s; past = past }) (Auth line) (opening_turn (moved (AtAuth AuthOpening) s) opening)
opens pid s past line (Cookie digits) is k =
    record { kept = record { pid_is = k.pid_is; due = k.due; few = k.few; opening = (rw (k.opening.0, is) refl, rw (k.opening.0, is) refl); login = tt; ids = k.ids; sent = k.sent } }
opens pid s past line (Mechanism name) is k =
    record { kept = record { pid_is = k.pid_is; due = k.due; few = k.few; opening = (rw (k.opening.0, is) refl, rw (k.opening.0, is) k.opening.1); login = tt; ids = k.ids; sent = k.sent } }
opens pid s past line Other is k =
    record { kept = record { pid_is = k.pid_is; due = k.due; few = k.few; opening = (rw (k.opening.0, is) refl, rw (k.opening.0, is) k.opening.1); login = tt; ids = k.ids; sent = k.sent } }
opens pid s past line Done is k =
    by_test (Passes pid (record { state = moved (AtAuth AuthOpening) s; past = past }) (Auth line)) (is_some s.cookie) _ _
    (λ e.
    let told = some_is s.cookie e in
    record {
      kept = record {
        pid_is = k.pid_is;
        due = k.due;
        few = k.few;
        opening = (told.0, told.1, rw (k.opening.0, is) refl, rw (k.opening.0, is) (k.opening.1 ∙ told.1));
        login = tt;
        ids = (λ h. not_auth h, (λ h. not_auth h, k.ids));
        sent = k.sent;
      };
    })
    (refused pid _ _ k)

replies_success : (pid : ℕ) (s : State) (past : Past) (last : Option Bytes) → Stands pid s past → auths past ≡ s.failures + 1
    → IsUnderWay (request_id s) past → WasToldOk (request_id s) past → Follows pid past (accepted s last)
replies_success pid s past None st sent under_way okay = requests pid s past st sent under_way okay
replies_success pid s past (Some text) st sent under_way okay =
    record { kept = record { pid_is = st.0; due = st.1; few = st.2; opening = st.3; login = (under_way, okay); ids = st.4; sent = sent } }

replies : (pid : ℕ) (s : State) (past : Past) (line : Bytes) (reply : Option Reply) → reply_of (line_fields line) ≡ reply
    → IsKept pid (moved (AtAuth Replying) s) past
    → Passes pid (record { state = moved (AtAuth Replying) s; past = past }) (Auth line) (reply_turn (moved (AtAuth Replying) s) reply)
replies pid s past line None is k = refused pid _ _ k
replies pid s past line (Some (Challenge id text)) is k =
    by_test (Passes pid (record { state = moved (AtAuth Replying) s; past = past }) (Auth line)) (eqb id (request_id s)) _ _
    (λ e. record { kept = record { pid_is = k.pid_is; due = k.due; few = k.few; opening = stays_opened s.cookie past line k.opening; login = k.login; ids = k.ids; sent = k.sent } })
    (refused pid _ _ k)
replies pid s past line (Some (Refusal id failure)) is k =
    let run : Run = record { state = moved (AtAuth Replying) s; past = past } in
    by_test (Passes pid run (Auth line)) (ltb id (request_id s)) _ _
    (λ e. record { kept = record { pid_is = k.pid_is; due = k.due; few = k.few; opening = stays_opened s.cookie past line k.opening; login = k.login; ids = k.ids; sent = k.sent } })
    (by_test (Passes pid run (Auth line)) (eqb id (request_id s)) _ _
    (λ e.
    passes pid run (Auth line) _
    (fails_at_once pid (moved (AtAuth Replying) s) (Came (Auth line) ∷ past) (failure_text failure)
    (k.pid_is, k.due, k.few, stays_opened s.cookie past line k.opening, k.ids) k.sent))
    (refused pid run (Auth line) k))
replies pid s past line (Some (Success id last)) is k =
    let run : Run = record { state = moved (AtAuth Replying) s; past = past } in
    by_test (Passes pid run (Auth line)) (eqb id (request_id s)) _ _
    (λ e.
    let spelled_ok : SpellsOk line (request_id s) = subst (SpellsOk line) (eqb-true id (request_id s) e) (success-spells line id last is) in
    passes pid run (Auth line) _
    (replies_success pid (moved (AtAuth Replying) s) (Came (Auth line) ∷ past) last
    (k.pid_is, k.due, k.few, stays_opened s.cookie past line k.opening, k.ids) k.sent k.login (inl (spelled_ok, k.login))))
    (refused pid run (Auth line) k)

-- ---- lines of the master side

opens_master : (pid : ℕ) (s : State) (past : Past) (line : Bytes) → IsKept pid (moved (AtMaster MasterVersion) s) past
    → Passes pid (record { state = moved (AtMaster MasterVersion) s; past = past }) (Master line) (version_turn (AtMaster MasterOpening) (moved (AtMaster MasterVersion) s) (line_fields line))
opens_master pid s past line k =
    by_test (Passes pid (record { state = moved (AtMaster MasterVersion) s; past = past }) (Master line)) (is_version (line_fields line)) _ _
    (λ e. record { kept = record { pid_is = k.pid_is; due = k.due; few = k.few; opening = k.opening; login = tt; ids = k.ids; sent = k.sent } })
    (refused pid _ _ k)

gets_ready : (pid : ℕ) (s : State) (past : Past) (line : Bytes) → IsKept pid (moved (AtMaster MasterOpening) s) past
    → Follows pid (Came (Master line) ∷ past) (server_turn (moved (AtMaster MasterOpening) s) (line_fields line))
gets_ready pid s past line k =
    by_test (Follows pid (Came (Master line) ∷ past)) (is_server (line_fields line)) _ _
    (λ e. record { kept = record { pid_is = k.pid_is; due = k.due; few = k.few; opening = k.opening; login = tt; ids = k.ids; sent = k.sent } })
    (record { kept = record { pid_is = k.pid_is; due = k.due; few = k.few; opening = k.opening; login = tt; ids = k.ids; sent = k.sent } })

looks_up : (pid : ℕ) (s : State) (past : Past) (line : Bytes) (lookup : Option Lookup) → lookup_of (line_fields line) ≡ lookup
    → IsKept pid (moved (AtMaster LookingUp) s) past
    → Passes pid (record { state = moved (AtMaster LookingUp) s; past = past }) (Master line) (lookup_turn (moved (AtMaster LookingUp) s) lookup)
looks_up pid s past line None is k = refused pid _ _ k
looks_up pid s past line (Some (Missing id)) is k =
    let run : Run = record { state = moved (AtMaster LookingUp) s; past = past } in
    by_test (Passes pid run (Master line)) (eqb id (request_id s)) _ _
    (λ e.
    passes pid run (Master line) _
    (fails_at_once pid (moved (AtMaster LookingUp) s) (Came (Master line) ∷ past) _ (k.pid_is, k.due, k.few, k.opening, k.ids) k.sent))
    (refused pid run (Master line) k)
looks_up pid s past line (Some (Found id user fields)) is k =
    let run : Run = record { state = moved (AtMaster LookingUp) s; past = past } in
    by_test (Passes pid run (Master line)) (eqb id (request_id s)) _ _
    (λ e.
    let n = request_id s in
    let digits = k.opening.0 in
    let spelled_user : SpellsUser line n user fields =
    subst (λ m. SpellsUser line m user fields) (eqb-true id n e) (found-spells line id user fields is) in
    let asked_line : last_to_master past ≡ Some (request_line n pid digits) =
    k.login.2 ∙ ap (λ c. Some (request_line n s.pid (option_or_else c [] (λ x. x)))) k.opening.1 ∙ ap (λ p. Some (request_line n p digits)) k.pid_is in
    let due : IsDue pid user fields (Came (Master line) ∷ past) =
    record { id = n; cookie = digits; told = spelled_user; asked = asked_line; opening = k.opening.3; okay = k.login.1; under_way = k.login.0 } in
    record { kept = record { pid_is = k.pid_is; due = (due, k.due); few = omega (arith, k.few); opening = k.opening; login = tt; ids = k.ids; sent = tt } })
    (refused pid run (Master line) k)

-- ---- the mail program

starts_up : (pid : ℕ) (s : State) (past : Past) → IsKept pid (moved Starting s) past → Follows pid (Came MailUp ∷ past) (mail_started s)
starts_up pid s past k = record { kept = record { pid_is = k.pid_is; due = k.due; few = k.few; opening = k.opening; login = tt; ids = k.ids; sent = k.sent } }

starts_not : (pid : ℕ) (s : State) (past : Past) → IsKept pid (moved Starting s) past → Follows pid (Came MailDown ∷ past) (mail_failed s)
starts_not pid s past k = record { kept = record { pid_is = k.pid_is; due = k.due; few = k.few; opening = k.opening; login = tt; ids = k.ids; sent = k.sent } }

-- ---- every step

keeps : (pid : ℕ) (place : Place) (s : State) (past : Past) (event : Event) → IsKept pid (moved place s) past
    → Passes pid (record { state = moved place s; past = past }) event (row place (moved place s) event)
keeps pid (AtAuth AuthVersion) s past (Auth line) k = begins_opening pid s past line k
keeps pid (AtAuth AuthOpening) s past (Auth line) k = opens pid s past line (opening_of (line_fields line)) refl k
keeps pid (AtAuth Replying) s past (Auth line) k = replies pid s past line (reply_of (line_fields line)) refl k
keeps pid (AtMaster MasterVersion) s past (Master line) k = opens_master pid s past line k
keeps pid (AtMaster MasterOpening) s past (Master line) k = passes pid _ (Master line) _ (gets_ready pid s past line k)
keeps pid (AtMaster LookingUp) s past (Master line) k = looks_up pid s past line (lookup_of (line_fields line)) refl k
keeps pid (AtClient Command) s past (Client line) k =
    passes pid _ (Client line) _ (commands pid s (Came (Client line) ∷ past) line (k.pid_is, k.due, k.few, k.opening, k.ids) k.sent)
keeps pid (AtClient Exchange) s past (Client line) k =
    passes pid _ (Client line) _
    (answers pid (moved (AtClient Exchange) s) (Came (Client line) ∷ past) line (k.pid_is, k.due, k.few, k.opening, k.ids) k.sent k.login)
keeps pid (AtClient LastAnswer) s past (Client line) k =
    passes pid _ (Client line) _
    (answers_last pid (moved (AtClient LastAnswer) s) (Came (Client line) ∷ past) line (k.pid_is, k.due, k.few, k.opening, k.ids) k.sent k.login.0 k.login.1)
keeps pid (AtClient Command) s past ClientEnd k =
    passes pid _ ClientEnd _ (leaves pid s (Came ClientEnd ∷ past) (k.pid_is, k.due, k.few, k.opening, k.ids))
keeps pid (AtClient Exchange) s past ClientEnd k =
    passes pid _ ClientEnd _ (leaves pid s (Came ClientEnd ∷ past) (k.pid_is, k.due, k.few, k.opening, k.ids))
keeps pid (AtClient LastAnswer) s past ClientEnd k =
    passes pid _ ClientEnd _ (leaves pid s (Came ClientEnd ∷ past) (k.pid_is, k.due, k.few, k.opening, k.ids))
keeps pid (AtClient Command) s past ClientLong k =
    passes pid _ ClientLong _ (breaks_off pid s (Came ClientLong ∷ past) (k.pid_is, k.due, k.few, k.opening, k.ids))
keeps pid (AtClient Exchange) s past ClientLong k =
    passes pid _ ClientLong _ (breaks_off pid s (Came ClientLong ∷ past) (k.pid_is, k.due, k.few, k.opening, k.ids))
keeps pid (AtClient LastAnswer) s past ClientLong k =
    passes pid _ ClientLong _ (breaks_off pid s (Came ClientLong ∷ past) (k.pid_is, k.due, k.few, k.opening, k.ids))
keeps pid Starting s past MailUp k = passes pid _ MailUp _ (starts_up pid s past k)
keeps pid Starting s past MailDown k = passes pid _ MailDown _ (starts_not pid s past k)
keeps pid _ s past event k = record { kept = k }

pub run-kept : (pid : ℕ) (events : List Event) → IsKept pid (run_of pid events).state (run_of pid events).past
run-kept pid [] = record { pid_is = refl; due = tt; few = refl; opening = (refl, refl); login = tt; ids = tt; sent = refl }
run-kept pid (event ∷ events) =
    let run = run_of pid events in (keeps pid run.state.place run.state run.past event (run-kept pid events)).kept

starts_few : (place : Place) (n : ℕ) → StartsAt place n → n ≤ 1
starts_few (AtAuth place) n h = omega (arith, h)
starts_few (AtMaster place) n h = omega (arith, h)
starts_few (AtClient place) n h = omega (arith, h)
starts_few Starting n h = h
starts_few Ended n h = h

pub starts_once : (pid : ℕ) (events : List Event) → starts (past_of pid events) ≤ 1
starts_once pid events = starts_few _ _ (run-kept pid events).few
