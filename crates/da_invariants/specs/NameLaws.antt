-- Laws on what connections and requests are called by: no two are called the same.
use Rattle.std.specs.Prelude.{◌≡◌, ℕ, true, List, Some}
use Rattle.da_base.specs.Words.{nth}
use Rattle.da_play.specs.History.{tables_of}
use Rattle.da_play.specs.declared.input.Entry.{Entry}
use Rattle.da_request.specs.declared.request.Request.{Request}
use Rattle.da_settings.specs.declared.settings.Settings.{Settings}
use Rattle.da_tables.specs.Connections.{has_pid}
use Rattle.da_tables.specs.declared.connections.Connection.{Connection}

-- at most one open client has this process number
abbrev pub ProcessNumbersAreDistinct : Type 0
ProcessNumbersAreDistinct =
    (settings : Settings) (h : List Entry) (pid n m : ℕ) (c d : Connection) → nth (tables_of settings h).connections n ≡ Some c → nth (tables_of settings h).connections m ≡ Some d →
    has_pid pid c ≡ true → has_pid pid d ≡ true → n ≡ m

-- at most one request of a connection has this id
abbrev pub IdsAreDistinct : Type 0
IdsAreDistinct =
    (settings : Settings) (h : List Entry) (n m : ℕ) (r s : Request) → nth (tables_of settings h).requests n ≡ Some r → nth (tables_of settings h).requests m ≡ Some s →
    r.conn ≡ s.conn → r.id ≡ s.id → n ≡ m
