-- Grants: which requests of masters are given a user.
use Rattle.std.specs.Prelude.{Bool, ℕ, ◌&&◌, not, Option, Some, None, option_map, option_and_then, if◌then◌else◌, bytes_eq}
use Rattle.da_base.specs.Words.{Bytes, nth}
use Rattle.da_request.specs.Requests.{decision, is_fresh, lookup_with}
use Rattle.da_request.specs.declared.request.Grant.{Grant}
use Rattle.da_request.specs.declared.request.Request.{Request}
use Rattle.da_settings.specs.declared.settings.Settings.{Settings}
use Rattle.da_tables.specs.Connections.{connection_with, is_used, request_number}
use Rattle.da_tables.specs.declared.connections.Connection.{Connection}
use Rattle.da_tables.specs.declared.tables.Tables.{Tables}

-- the grant of the login of this number, which serves another request of a master already or not
abbrev pub login_grant : Settings → ℕ → Bool → ℕ → Request → Option Grant
login_grant settings moment serves number r =
    if is_fresh moment r && not serves
    then option_map (λ lookup. record { request = number; lookup = lookup }) (option_and_then (lookup_with r.body) (decision settings r))
    else None

-- the login of a request, where it may still be used
abbrev pub usable_login : Settings → ℕ → Tables → ℕ → Request → Option Grant
usable_login settings moment tables number r = login_grant settings moment (is_used tables number) number r

abbrev pub grant_for : Settings → ℕ → Tables → ℕ → Option Request → Option Grant
grant_for settings moment tables number None = None
grant_for settings moment tables number (Some r) = usable_login settings moment tables number r

-- the grant by a connection, if it has this cookie
abbrev pub grant_on : Settings → ℕ → Tables → ℕ → Bytes → ℕ → Option Connection → Option Grant
grant_on settings moment tables client cookie conn None = None
grant_on settings moment tables client cookie conn (Some c) =
    if bytes_eq c.cookie cookie
    then grant_for settings moment tables (request_number tables conn client) (nth tables.requests (request_number tables conn client))
    else None

-- the grant of a master's request, if it is granted: it names the process number of an open client connection, that
-- connection's cookie, and a request there that was told OK, at most 150,000 ms ago, and is neither cancelled nor used
unfoldable pub granted : Settings → ℕ → Tables → ℕ → ℕ → Bytes → Option Grant
granted settings moment tables pid client cookie =
    grant_on settings moment tables client cookie (connection_with tables pid) (nth tables.connections (connection_with tables pid))
