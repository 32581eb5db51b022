-- Laws on what masters are given.
use Rattle.std.specs.Prelude.{◌≡◌, ◌≤◌, ℕ, true, false, List, ◌∷◌, ◌++◌, Option, Some}
use Rattle.da_base.specs.Words.{Bytes, later, nth, count_where}
use Rattle.da_fields.specs.FieldList.{Pairs}
use Rattle.da_msgs.specs.MasterMessages.{master_message}
use Rattle.da_msgs.specs.declared.master.MasterMsg.TheVariants.{Request as MasterRequest}
use Rattle.da_lines.specs.Grants.{granted}
use Rattle.da_play.specs.History.{before_input, tables_of}
use Rattle.da_play.specs.declared.input.Entry.{Entry}
use Rattle.da_play.specs.declared.input.Input.TheVariants.{Line}
use Rattle.da_request.specs.Requests.{decision, is_granted_for}
use Rattle.da_request.specs.declared.request.Body.TheVariants.{LooksUp}
use Rattle.da_request.specs.declared.request.Grant.{Grant}
use Rattle.da_request.specs.declared.request.Request.{Request}
use Rattle.da_request.specs.declared.stages.Decision.TheVariants.{Success, UserGiven}
use Rattle.da_settings.specs.declared.settings.Settings.{Settings}
use Rattle.da_tables.specs.Connections.{is_used}
use Rattle.da_tables.specs.Tables.{is_client}
use Rattle.da_tables.specs.declared.connections.Connection.{Connection}
use Rattle.da_tables.specs.declared.tables.Tables.{Tables}

-- at most one request of a master is granted for one request of a client
abbrev pub GrantedAtMostOnce : Type 0
GrantedAtMostOnce = (settings : Settings) (h : List Entry) (n : ℕ) → count_where (λ r. is_granted_for n r.body) (tables_of settings h).requests ≤ 1

-- what a grant stands on: an open client connection of this process number and cookie, and its request of this id, told
-- OK in time, and neither cancelled nor used
pub record StandsOn (settings : Settings) (moment : ℕ) (tables : Tables) (pid client : ℕ) (cookie : Bytes) (grant : Grant) : Type 0 where
  pub conn : ℕ
  pub connection : Connection
  pub is_there : nth tables.connections conn ≡ Some connection
  pub is_client : is_client connection.kind ≡ true
  pub is_connected : connection.is_open ≡ true
  pub has_pid : connection.pid ≡ Some pid
  pub has_cookie : connection.cookie ≡ cookie
  pub login : Request
  pub is_made : nth tables.requests grant.request ≡ Some login
  pub is_on : login.conn ≡ conn
  pub has_id : login.id ≡ client
  pub replied : ℕ
  pub is_replied : login.replied ≡ Some replied
  pub in_time : moment ≤ later replied 150000
  pub is_not_cancelled : login.is_cancelled ≡ false
  pub is_unused : is_used tables grant.request ≡ false
  pub last : Option Bytes
  pub is_okay : decision settings login ≡ Some (Success grant.lookup.user grant.lookup.passdb_fields last)

abbrev pub GrantsStand : Type 0
GrantsStand =
    (settings : Settings) (moment : ℕ) (tables : Tables) (pid client : ℕ) (cookie : Bytes) (grant : Grant) →
    granted settings moment tables pid client cookie ≡ Some grant → StandsOn settings moment tables pid client cookie grant

-- an entry was a REQUEST of this id on this connection, and it was granted there
pub record WasGranted (settings : Settings) (h : List Entry) (conn id : ℕ) (random : Bytes) (grant : Grant) : Type 0 where
  pub newer : List Entry
  pub entry : Entry
  pub older : List Entry
  pub is_there : h ≡ newer ++ entry ∷ older
  pub text : Bytes
  pub is_line : entry.input ≡ Line conn text random
  pub pid : ℕ
  pub client : ℕ
  pub cookie : Bytes
  pub spells : master_message text ≡ Some (MasterRequest id pid client cookie)
  pub is_granted : granted settings entry.moment (before_input settings entry.moment entry.input (tables_of settings older)) pid client cookie ≡ Some grant

-- a request that is given a user was granted by the entry that was its own REQUEST
abbrev pub UserWasGranted : Type 0
UserWasGranted =
    (settings : Settings) (h : List Entry) (n : ℕ) (r : Request) (user : Bytes) (fields : Pairs) →
    nth (tables_of settings h).requests n ≡ Some r → decision settings r ≡ Some (UserGiven user fields) →
    (grant : Grant) × (r.body ≡ LooksUp (Some grant)) × (grant.lookup.user ≡ user) × WasGranted settings h r.conn r.id r.random grant
