-- What a session knows, and whose event it awaits.
use Rattle.std.specs.Prelude.{ℕ, ◌+◌, List, Option}
use Rattle.da_base.specs.Words.{Bytes}
use Rattle.da_pop3.specs.declared.event.Side.{Side}
use Rattle.da_pop3.specs.declared.event.Side.TheVariants.{Auth, Master, Client, Mail, Over}
use Rattle.da_pop3.specs.declared.event.Event.{Event}
use Rattle.da_pop3.specs.declared.event.Event.TheVariants.{Client as ClientLine, ClientLong, ClientEnd, Auth as AuthLine, Master as MasterLine, MailUp, MailDown}
use Rattle.da_pop3.specs.declared.place.Place.{Place}
use Rattle.da_pop3.specs.declared.place.Place.TheVariants.{AtAuth, AtMaster, AtClient, Starting, Ended}

pub record State : Type 0 where
  pub pid : ℕ
  pub place : Place
  -- the mechanisms that the auth service names, in their order
  pub mechanisms : List Bytes
  -- the cookie that it told last
  pub cookie : Option Bytes
  -- the name of the last USER
  pub name : Option Bytes
  -- how many times the client failed to log in
  pub failures : ℕ

-- the side whose event is awaited
abbrev pub side_at : Place → Side
side_at (AtAuth place) = Auth
side_at (AtMaster place) = Master
side_at (AtClient place) = Client
side_at Starting = Mail
side_at Ended = Over

-- the side whose event it is
abbrev pub side_of : Event → Side
side_of (ClientLine line) = Client
side_of ClientLong = Client
side_of ClientEnd = Client
side_of (AuthLine line) = Auth
side_of (MasterLine line) = Master
side_of MailUp = Mail
side_of MailDown = Mail

-- the id of the AUTH under way, or of the next one: each AUTH before it has failed, and so the ids are 1, 2, 3
abbrev pub request_id : State → ℕ
request_id s = s.failures + 1
