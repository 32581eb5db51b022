-- What a line of a connection does.
use Rattle.std.specs.Prelude.{ℕ, Bool, ◌&&◌, ◌||◌, not, [], Option, Some, None, if◌then◌else◌}
use Rattle.da_base.specs.Words.{Bytes, nth, passes_option}
use Rattle.da_msgs.specs.ClientMessages.{client_message}
use Rattle.da_msgs.specs.MasterMessages.{master_message}
use Rattle.da_msgs.specs.declared.client.ClientMsg.{ClientMsg}
use Rattle.da_msgs.specs.declared.client.ClientMsg.TheVariants.{Version, Pid, Auth, Cont, Cancel, Other}
use Rattle.da_msgs.specs.declared.master.MasterMsg.{MasterMsg}
use Rattle.da_msgs.specs.declared.master.MasterMsg.TheVariants.{Version as MasterVersion, Request as MasterRequest, Other as MasterOther}
use Rattle.da_lines.specs.Grants.{granted}
use Rattle.da_request.specs.Requests.{cancelled, decision, is_awaiting, is_login_success, is_pending, new_request, with_text}
use Rattle.da_request.specs.declared.request.Body.TheVariants.{Authenticates, LooksUp}
use Rattle.da_request.specs.declared.request.Request.{Request}
use Rattle.da_settings.specs.declared.settings.Settings.{Settings}
use Rattle.da_tables.specs.Connections.{client_may, is_used, master_may, request_number, with_pid, with_version}
use Rattle.da_tables.specs.Tables.{AfterInput, closing, continuing, continuing_new, continuing_none, is_client, with_connection, with_request}
use Rattle.da_tables.specs.declared.connections.Connection.{Connection}
use Rattle.da_tables.specs.declared.tables.Tables.{Tables}

-- ---- the next message of a request

-- a message is that of a request that awaits one, and is ignored elsewhere
abbrev pub continues : Settings → ℕ → Bytes → Tables → AfterInput
continues settings number text tables =
    if passes_option (is_awaiting settings) (nth tables.requests number)
    then continuing number (with_request (with_text text) number tables)
    else continuing_none tables

-- ---- cancels

-- the request is open, or authenticated and unused
abbrev pub is_cancellable : Settings → Tables → ℕ → Request → Bool
is_cancellable settings tables number r =
    is_pending r || (not r.is_cancelled && passes_option is_login_success (decision settings r) && not (is_used tables number))

abbrev pub cancels : Settings → ℕ → Tables → AfterInput
cancels settings number tables =
    if passes_option (is_cancellable settings tables number) (nth tables.requests number)
    then continuing_none (with_request cancelled number tables)
    else continuing_none tables

-- ---- lines of clients

abbrev pub after_client_message : Settings → ℕ → ℕ → Bytes → ClientMsg → Tables → AfterInput
after_client_message settings moment conn random (Version major minor) tables = continuing_none (with_connection (with_version minor) conn tables)
after_client_message settings moment conn random (Pid pid) tables = continuing_none (with_connection (with_pid pid) conn tables)
after_client_message settings moment conn random (Auth id mech params resp) tables =
    continuing_new (new_request moment conn id random (Authenticates mech params resp [])) tables
after_client_message settings moment conn random (Cont id text) tables = continues settings (request_number tables conn id) text tables
after_client_message settings moment conn random (Cancel id) tables = cancels settings (request_number tables conn id) tables
after_client_message settings moment conn random Other tables = continuing_none tables

-- a line that spells no message, or one that may not stand there, closes its connection
abbrev pub client_line : Settings → ℕ → ℕ → Bytes → Connection → Option ClientMsg → Tables → AfterInput
client_line settings moment conn random c None tables = closing conn tables
client_line settings moment conn random c (Some message) tables =
    if client_may tables conn c message then after_client_message settings moment conn random message tables else closing conn tables

-- ---- lines of masters

abbrev pub after_master_message : Settings → ℕ → ℕ → Bytes → MasterMsg → Tables → AfterInput
after_master_message settings moment conn random (MasterVersion major minor) tables = continuing_none (with_connection (with_version minor) conn tables)
after_master_message settings moment conn random (MasterRequest id pid client cookie) tables =
    continuing_new (new_request moment conn id random (LooksUp (granted settings moment tables pid client cookie))) tables
after_master_message settings moment conn random MasterOther tables = continuing_none tables

abbrev pub master_line : Settings → ℕ → ℕ → Bytes → Connection → Option MasterMsg → Tables → AfterInput
master_line settings moment conn random c None tables = closing conn tables
master_line settings moment conn random c (Some message) tables =
    if master_may tables conn c message then after_master_message settings moment conn random message tables else closing conn tables

-- ---- a line

abbrev pub line_by : Settings → ℕ → ℕ → Bytes → Bytes → Connection → Tables → AfterInput
line_by settings moment conn text random c tables =
    if is_client c.kind
    then client_line settings moment conn random c (client_message text) tables
    else master_line settings moment conn random c (master_message text) tables

abbrev pub line_on : Settings → ℕ → ℕ → Bytes → Bytes → Option Connection → Tables → AfterInput
line_on settings moment conn text random None tables = continuing_none tables
line_on settings moment conn text random (Some c) tables =
    if c.is_open then line_by settings moment conn text random c tables else continuing_none tables
