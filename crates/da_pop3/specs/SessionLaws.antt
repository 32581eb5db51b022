-- When a session starts the mail program, whatever it is told.
use Rattle.std.specs.Prelude.{◌≡◌, ℕ, ◌+◌, ◌<◌, ◌≤◌, ◌^◌, ◌⊎◌, true, List, [], ◌∷◌, Option, Some, codes, decimal, if◌then◌else◌}
use Rattle.std.specs.List.{AllByRecursion}
use Rattle.da_base.specs.Words.{Bytes, number, begins_with}
use Rattle.da_tabline.specs.Escapes.{line_fields, spelled}
use Rattle.da_tabline.specs.Parts.{Lacks}
use Rattle.da_fields.specs.FieldList.{Pairs, AreDistinct}
use Rattle.da_msgs.specs.Replies.{reply_line, master_reply_line}
use Rattle.da_msgs.specs.declared.client.Reply.TheVariants.{Ok as Okay}
use Rattle.da_msgs.specs.declared.master.MasterReply.TheVariants.{User}
use Rattle.da_pop3.specs.ServiceLines.{pairs_of}
use Rattle.da_pop3.specs.OwnLines.{cancel_line, request_line}
use Rattle.da_pop3.specs.Sessions.{Came, Did, Past, past_of, starts, last_to_master, opening_cookie}
use Rattle.da_pop3.specs.declared.event.Event.{Event}
use Rattle.da_pop3.specs.declared.event.Event.TheVariants.{Auth, Master}
use Rattle.da_pop3.specs.declared.event.Act.TheVariants.{ToAuth, Start}

-- ---- lines

-- `OK`, the id, and fields
pub record SpellsOk (line : Bytes) (id : ℕ) : Type 0 where
  pub numeral : Bytes
  pub more : List Bytes
  pub words : line_fields line ≡ codes "OK" ∷ numeral ∷ more
  pub number_is : number numeral ≡ Some id

-- `USER`, the id, the user, and the user's fields
pub record SpellsUser (line : Bytes) (id : ℕ) (user : Bytes) (fields : Pairs) : Type 0 where
  pub numeral : Bytes
  pub more : List Bytes
  pub words : line_fields line ≡ codes "USER" ∷ numeral ∷ user ∷ more
  pub number_is : number numeral ≡ Some id
  pub pairs : pairs_of more ≡ fields

-- the line is an AUTH of this id
abbrev pub IsAuth : ℕ → Bytes → Type 0
IsAuth id line = (more : List Bytes) × (line ≡ spelled (codes "AUTH" ∷ decimal id ∷ more))

-- no key has an equals sign
abbrev pub ArePlain : Pairs → Type 0
ArePlain fields = AllByRecursion (λ p. Lacks 61 p.0) fields

-- what the service prints for a login that it authenticated spells OK, and what it prints for a user spells that user
abbrev pub PrintedOkIsSpelled : Type 0
PrintedOkIsSpelled =
    (id : ℕ) (user : Bytes) (fields : Pairs) (last : Option Bytes) → id < 2 ^ 32 → SpellsOk (reply_line (Okay id user fields last)) id

abbrev pub PrintedUserIsSpelled : Type 0
PrintedUserIsSpelled =
    (id : ℕ) (user : Bytes) (fields : Pairs) → id < 2 ^ 32 → ArePlain fields → AreDistinct fields
    → SpellsUser (master_reply_line (User id user fields)) id user fields

-- ---- logins

-- an AUTH of this id was sent, and no CANCEL of it since
abbrev pub IsUnderWay : ℕ → Past → Type 0
IsUnderWay id [] = ⊥
IsUnderWay id (Did (ToAuth line) ∷ past) = IsAuth id line ⊎ ((line ≡ cancel_line id → ⊥) × IsUnderWay id past)
IsUnderWay id (_ ∷ past) = IsUnderWay id past

-- the auth service told OK for this id, while it was under way
abbrev pub WasToldOk : ℕ → Past → Type 0
WasToldOk id [] = ⊥
WasToldOk id (Came (Auth line) ∷ past) = (SpellsOk line id × IsUnderWay id past) ⊎ WasToldOk id past
WasToldOk id (_ ∷ past) = WasToldOk id past

-- the newest event is a line of the master side that spells USER with this id, user and fields
abbrev pub EndsWithUser : ℕ → Bytes → Pairs → Past → Type 0
EndsWithUser id user fields (Came (Master line) ∷ past) = SpellsUser line id user fields
EndsWithUser id user fields _ = ⊥

-- ---- ids

-- how many AUTH lines were sent
abbrev pub auths : Past → ℕ
auths [] = 0
auths (Did (ToAuth line) ∷ past) = if begins_with (codes "AUTH") line then auths past + 1 else auths past
auths (_ ∷ past) = auths past

-- the id of each AUTH is the next number: 1, 2, 3
abbrev pub EachAuthIsNext : Past → Type 0
EachAuthIsNext [] = Unit {0}
EachAuthIsNext (Did (ToAuth line) ∷ past) = (begins_with (codes "AUTH") line ≡ true → IsAuth (auths past + 1) line) × EachAuthIsNext past
EachAuthIsNext (_ ∷ past) = EachAuthIsNext past

abbrev pub IdsRise : Type 0
IdsRise = (pid : ℕ) (events : List Event) → EachAuthIsNext (past_of pid events)

-- ---- starts

-- why the mail program is started after this past, for this user and with these fields
pub record IsDue (pid : ℕ) (user : Bytes) (fields : Pairs) (past : Past) : Type 0 where
  pub id : ℕ
  pub cookie : Bytes
  -- the master side has just told this user and these fields for the id
  pub told : EndsWithUser id user fields past
  -- it was last asked for the login of this id, with the cookie of the auth service's opening
  pub asked : last_to_master past ≡ Some (request_line id pid cookie)
  pub opening : opening_cookie past ≡ Some cookie
  -- the auth service told OK for the id, which this session had sent in an AUTH and never cancelled
  pub okay : WasToldOk id past
  pub under_way : IsUnderWay id past

-- each start came when it was due
abbrev pub EachStartIsDue : ℕ → Past → Type 0
EachStartIsDue pid [] = Unit {0}
EachStartIsDue pid (Did (Start user fields) ∷ past) = IsDue pid user fields past × EachStartIsDue pid past
EachStartIsDue pid (_ ∷ past) = EachStartIsDue pid past

abbrev pub StartsOnce : Type 0
StartsOnce = (pid : ℕ) (events : List Event) → starts (past_of pid events) ≤ 1

abbrev pub StartsAreDue : Type 0
StartsAreDue = (pid : ℕ) (events : List Event) → EachStartIsDue pid (past_of pid events)
