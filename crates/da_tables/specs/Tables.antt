-- The tables of the server, and changes of one row.
use Rattle.std.specs.Prelude.{ℕ, Bool, true, false, [], ◌∷◌, ◌++◌, suc, length, map, Option, Some, None}
use Rattle.da_base.specs.Words.{nth, changed_nth, passes_option}
use Rattle.da_msgs.specs.declared.kinds.ConnKind.{ConnKind}
use Rattle.da_msgs.specs.declared.kinds.ConnKind.TheVariants.{Client, Master}
use Rattle.da_request.specs.Requests.{as_cancelled_of, replied_if_due, timed_out_if_over}
use Rattle.da_request.specs.declared.request.Request.{Request}
use Rattle.da_settings.specs.declared.settings.Settings.{Settings}
use Rattle.da_tables.specs.declared.connections.Connection.{Connection}
use Rattle.da_tables.specs.declared.queries.QueryRow.{QueryRow}
use Rattle.da_tables.specs.declared.tables.Tables.{Tables}

abbrev pub at_start : Tables
at_start = record { connections = []; requests = []; queries = []; cacheable = []; keys = [] }

abbrev pub with_connection : (Connection → Connection) → ℕ → Tables → Tables
with_connection change conn tables = record tables { connections = changed_nth change tables.connections conn }

abbrev pub with_request : (Request → Request) → ℕ → Tables → Tables
with_request change number tables = record tables { requests = changed_nth change tables.requests number }

abbrev pub with_query : (QueryRow → QueryRow) → ℕ → Tables → Tables
with_query change number tables = record tables { queries = changed_nth change tables.queries number }

abbrev pub is_client : ConnKind → Bool
is_client Client = true
is_client Master = false

abbrev pub is_open_in : Tables → ℕ → Bool
is_open_in tables conn = passes_option (λ c. c.is_open) (nth tables.connections conn)

abbrev pub closed : Connection → Connection
closed c = record c { is_open = false }

-- the end of a connection cancels its requests
unfoldable pub with_end : ℕ → Tables → Tables
with_end conn tables =
    record tables { connections = changed_nth closed tables.connections conn; requests = map (as_cancelled_of conn) tables.requests }

-- ---- what an input of its own does

-- the tables after it, the request that it continues, and the connection that the server closes
pub record AfterInput : Type 0 where
  pub tables : Tables
  pub continued : Option ℕ
  pub closed : Option ℕ

-- it continues no request
abbrev pub continuing_none : Tables → AfterInput
continuing_none tables = record { tables = tables; continued = None; closed = None }

abbrev pub continuing : ℕ → Tables → AfterInput
continuing number tables = record { tables = tables; continued = Some number; closed = None }

-- the server closes the connection
abbrev pub closing : ℕ → Tables → AfterInput
closing conn tables = record { tables = with_end conn tables; continued = None; closed = Some conn }

-- a new request, which is the one that continues
abbrev pub continuing_new : Request → Tables → AfterInput
continuing_new r tables = continuing (suc (length tables.requests)) (record tables { requests = tables.requests ++ r ∷ [] })

-- each client's request that isn't decided is timed out once its limit is reached
unfoldable pub with_timed_out : Settings → ℕ → Tables → Tables
with_timed_out settings moment tables = record tables { requests = map (timed_out_if_over settings moment) tables.requests }

unfoldable pub with_due_replied : Settings → ℕ → Tables → Tables
with_due_replied settings moment tables = record tables { requests = map (replied_if_due settings moment) tables.requests }
