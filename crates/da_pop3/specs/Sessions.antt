-- What happens in a session: the events that come, and what is done.
use Rattle.std.specs.Prelude.{ℕ, suc, ◌||◌, Bool, false, true, List, [], ◌∷◌, Option, Some, None, if◌then◌else◌}
use Rattle.da_base.specs.Words.{Bytes, option_or_else}
use Rattle.da_tabline.specs.Escapes.{line_fields}
use Rattle.da_pop3.specs.State.{State}
use Rattle.da_pop3.specs.ServiceLines.{opening_of}
use Rattle.da_pop3.specs.Table.{Turn, step, fresh}
use Rattle.da_pop3.specs.declared.event.Event.{Event}
use Rattle.da_pop3.specs.declared.event.Event.TheVariants.{Auth}
use Rattle.da_pop3.specs.declared.event.Act.{Act}
use Rattle.da_pop3.specs.declared.event.Act.TheVariants.{ToMaster, Start}
use Rattle.da_pop3.specs.declared.service.Opening.{Opening}
use Rattle.da_pop3.specs.declared.service.Opening.TheVariants.{Cookie, Done}

pub data Happening : Type 0 where
  Came : Event → Happening
  Did : Act → Happening

-- all that happened, the newest first
abbrev pub Past : Type 0
Past = List Happening

-- ---- how events are played

-- these acts, one after another
abbrev pub with_acts : List Act → Past → Past
with_acts [] past = past
with_acts (act ∷ acts) past = with_acts acts (Did act ∷ past)

pub record Run : Type 0 where
  pub state : State
  pub past : Past

-- an event that fits no row leaves no trace
abbrev pub after_turn : Run → Event → Option Turn → Run
after_turn run event None = run
after_turn run event (Some turn) = record { state = turn.1; past = with_acts turn.0 (Came event ∷ run.past) }

-- the session of the login process of this number, told these events, of which the newest stands first
abbrev pub run_of : ℕ → List Event → Run
run_of pid [] = record { state = fresh pid; past = [] }
run_of pid (event ∷ events) = after_turn (run_of pid events) event (step (run_of pid events).state event)

abbrev pub past_of : ℕ → List Event → Past
past_of pid events = (run_of pid events).past

-- ---- what a past tells

-- how often the mail program was started
abbrev pub starts : Past → ℕ
starts [] = 0
starts (Did (Start user fields) ∷ past) = suc (starts past)
starts (_ ∷ past) = starts past

-- the last line to the master side
abbrev pub last_to_master : Past → Option Bytes
last_to_master [] = None
last_to_master (Did (ToMaster line) ∷ past) = Some line
last_to_master (_ ∷ past) = last_to_master past

abbrev pub cookie_told : Opening → Option Bytes
cookie_told (Cookie digits) = Some digits
cookie_told _ = None

abbrev pub is_end : Opening → Bool
is_end Done = true
is_end _ = false

-- the auth service's opening has ended
abbrev pub is_opened : Past → Bool
is_opened [] = false
is_opened (Came (Auth line) ∷ past) = is_opened past || is_end (opening_of (line_fields line))
is_opened (_ ∷ past) = is_opened past

-- the cookie of the auth service's opening: the last that was told before its end
abbrev pub opening_cookie : Past → Option Bytes
opening_cookie [] = None
opening_cookie (Came (Auth line) ∷ past) =
    if is_opened past then opening_cookie past
    else option_or_else (cookie_told (opening_of (line_fields line))) (opening_cookie past) (λ cookie. Some cookie)
opening_cookie (_ ∷ past) = opening_cookie past
