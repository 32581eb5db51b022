-- Connections: which lines close theirs.
use Rattle.std.specs.Prelude.{ℕ, Bool, ◌&&◌, not, nat_le, nat_lt, ◌==◌, is_some, Some, true}
use Rattle.std.specs.List.{list_any}
use Rattle.da_base.specs.Words.{nth, passes_option, number_where, count_where}
use Rattle.da_msgs.specs.declared.client.ClientMsg.{ClientMsg}
use Rattle.da_msgs.specs.declared.client.ClientMsg.TheVariants.{Version, Pid, Auth}
use Rattle.da_msgs.specs.declared.master.MasterMsg.{MasterMsg}
use Rattle.da_msgs.specs.declared.master.MasterMsg.TheVariants.{Version as MasterVersion, Request as MasterRequest, Other as MasterOther}
use Rattle.da_request.specs.Requests.{is_granted_for, is_of, is_pending}
use Rattle.da_tables.specs.Tables.{is_client}
use Rattle.da_tables.specs.declared.connections.Connection.{Connection}
use Rattle.da_tables.specs.declared.tables.Tables.{Tables}

-- an open client connection that sent this process number
abbrev pub has_pid : ℕ → Connection → Bool
has_pid pid c = is_client c.kind && c.is_open && passes_option (λ p. p == pid) c.pid

-- the number of the request that a connection calls by this id, or 0
abbrev pub request_number : Tables → ℕ → ℕ → ℕ
request_number tables conn id = number_where (λ r. is_of conn r && (r.id == id)) tables.requests

-- how many requests of a connection are open
abbrev pub pending_count : Tables → ℕ → ℕ
pending_count tables conn = count_where (λ r. is_of conn r && is_pending r) tables.requests

-- it sent its version
abbrev pub has_version : Connection → Bool
has_version c = is_some c.minor

-- it said the minor version 2 or a greater one, and so knows the codes of failures
abbrev pub knows_codes : Connection → Bool
knows_codes c = passes_option (λ minor. nat_le 2 minor) c.minor

-- the connection of this number knows codes
abbrev pub knows_codes_in : Tables → ℕ → Bool
knows_codes_in tables conn = passes_option knows_codes (nth tables.connections conn)

-- its version is told once, and is of major 1
abbrev pub may_tell_version : ℕ → Connection → Bool
may_tell_version major c = not (has_version c) && (major == 1)

-- its process number is told after its version, once, where no other open client has it
abbrev pub may_tell_pid : Bool → Connection → Bool
may_tell_pid is_taken c = has_version c && not (is_some c.pid) && not is_taken

-- a new request has an id of its own, by which no request is called, and finds fewer than 1,000 requests open
abbrev pub may_authenticate : ℕ → ℕ → Connection → Bool
may_authenticate called pending c = has_version c && is_some c.pid && (called == 0) && nat_lt pending 1000

-- a master's request has an id of its own
abbrev pub may_look_up : ℕ → Connection → Bool
may_look_up called c = has_version c && (called == 0)

-- a client first sends its version, and then its process number
abbrev pub client_may : Tables → ℕ → Connection → ClientMsg → Bool
client_may tables conn c (Version major minor) = may_tell_version major c
client_may tables conn c (Pid pid) = may_tell_pid (list_any (has_pid pid) tables.connections) c
client_may tables conn c (Auth id mech params resp) = may_authenticate (request_number tables conn id) (pending_count tables conn) c
client_may tables conn c _ = has_version c && is_some c.pid

-- a master first sends its version
abbrev pub master_may : Tables → ℕ → Connection → MasterMsg → Bool
master_may tables conn c (MasterVersion major minor) = may_tell_version major c
master_may tables conn c (MasterRequest id pid client cookie) = may_look_up (request_number tables conn id) c
master_may tables conn c MasterOther = has_version c

-- a lookup was granted for the request of this number
abbrev pub is_used : Tables → ℕ → Bool
is_used tables number = list_any (λ q. is_granted_for number q.body) tables.requests

-- the open client connection of this process number, or 0
abbrev pub connection_with : Tables → ℕ → ℕ
connection_with tables pid = number_where (has_pid pid) tables.connections

-- it sent its version, of this minor
abbrev pub with_version : ℕ → Connection → Connection
with_version minor c = record c { minor = Some minor }

abbrev pub with_pid : ℕ → Connection → Connection
with_pid pid c = record c { pid = Some pid }

abbrev pub open_count : Tables → ℕ
open_count tables = count_where (λ c. c.is_open) tables.connections
