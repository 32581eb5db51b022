-- Worked runs: when the server closes a connection, and what it refuses.
use Rattle.std.specs.Prelude.{List, [], ◌∷◌, ◌++◌, Err, codes}
use Rattle.da_msgs.specs.declared.kinds.ConnKind.TheVariants.{Client, Master}
use Rattle.da_play.specs.Play.{Event}
use Rattle.da_play.specs.declared.input.Input.TheVariants.{Broken, Gone, Take, Tick}
use Rattle.da_play.specs.declared.outputs.Refused.TheVariants.{ConnLimit, HistoryFull, NoConn, NothingWaits}
use Rattle.da_runs.specs.RunWords.{Reply, closes, greets_client, greets_master, line, opened, silence}
use Rattle.da_runs.specs.RunsOfLogins.{right_login, right_login_replies}
use Rattle.da_settings.specs.DefaultSettings.{default_settings}
use Rattle.da_settings.specs.declared.settings.Settings.{Settings}

-- ---- one client tells another major version, and one asks for a login before it tells its process number

abbrev pub hasty_clients : List Event
hasty_clients =
    opened 1 Client
    ∷ line 2 1 (codes "VERSION\t2\t0")
    ∷ opened 3 Client
    ∷ line 4 2 (codes "VERSION\t1\t99")
    ∷ line 5 2 (codes "AUTH\t1\tPLAIN\tservice=imap")
    ∷ []

abbrev pub hasty_clients_replies : List Reply
hasty_clients_replies = greets_client 1 1 ∷ closes 2 1 ∷ greets_client 3 2 ∷ silence 4 ∷ closes 5 2 ∷ []

-- ---- after a login, a message for it is ignored, a second client with the first one's process number is closed, and so
-- is the first client, which uses the number of its request again

abbrev pub used_numbers : List Event
used_numbers =
    right_login
    ++ (line 1006 1 (codes "CONT\t1\tAA==")
    ∷ opened 1007 Client
    ∷ line 1008 2 (codes "VERSION\t1\t1")
    ∷ line 1009 2 (codes "CPID\t4711")
    ∷ line 1010 1 (codes "AUTH\t1\tPLAIN\tservice=imap")
    ∷ [])

abbrev pub used_numbers_replies : List Reply
used_numbers_replies = right_login_replies ++ (silence 7 ∷ greets_client 8 2 ∷ silence 9 ∷ closes 10 2 ∷ closes 11 1 ∷ [])

-- ---- a client sends a line that is too long, and is then no longer there to end

abbrev pub long_line : List Event
long_line = opened 1 Client ∷ (2, Broken 1) ∷ (3, Gone 1) ∷ []

abbrev pub long_line_replies : List Reply
long_line_replies = greets_client 1 1 ∷ closes 2 1 ∷ Err (NoConn 1) ∷ []

-- ---- a history may have one entry

abbrev pub one_entry : Settings
one_entry = record (default_settings 0) { history_entries = 1 }

abbrev pub two_entries : List Event
two_entries = opened 1 Master ∷ (2, Tick) ∷ []

abbrev pub two_entries_replies : List Reply
two_entries_replies = greets_master 1 1 ∷ Err HistoryFull ∷ []

-- ---- one connection may be open

abbrev pub one_connection : Settings
one_connection = record (default_settings 0) { connections = 1 }

abbrev pub two_connections : List Event
two_connections = opened 1 Client ∷ opened 2 Client ∷ []

abbrev pub two_connections_replies : List Reply
two_connections_replies = greets_client 1 1 ∷ Err (ConnLimit 1) ∷ []

-- ---- a worker comes where no query waits

abbrev pub early_worker : List Event
early_worker = (1, Take) ∷ []

abbrev pub early_worker_replies : List Reply
early_worker_replies = Err NothingWaits ∷ []
