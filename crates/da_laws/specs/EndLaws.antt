-- Laws on the ends of connections and of runs.
use Rattle.std.specs.Prelude.{◌≡◌, ℕ, true, false, List, ◌∷◌, Option, Some}
use Rattle.da_base.specs.Words.{nth}
use Rattle.da_play.specs.Effects.{wire}
use Rattle.da_play.specs.History.{tables_of}
use Rattle.da_play.specs.Legal.{is_full, is_over}
use Rattle.da_play.specs.declared.input.Entry.{Entry}
use Rattle.da_settings.specs.declared.settings.Goal.{Goal}
use Rattle.da_settings.specs.declared.settings.Settings.{Settings}
use Rattle.da_tables.specs.Tables.{is_open_in}
use Rattle.da_tables.specs.declared.connections.Connection.{Connection}

-- the bytes to a connection that has ended are all that it gets
abbrev pub WireIsClosed : Type 0
WireIsClosed =
    (settings : Settings) (e : Entry) (g : List Entry) (conn : ℕ) (c : Connection) → nth (tables_of settings g).connections conn ≡ Some c → c.is_open ≡ false →
    wire settings (e ∷ g) conn ≡ wire settings g conn

-- a full history is full for ever
abbrev pub FullStaysFull : Type 0
FullStaysFull = (settings : Settings) (e : Entry) (g : List Entry) → is_full settings g ≡ true → is_full settings (e ∷ g) ≡ true

-- a run that is over has no open connection
abbrev pub OverIsClosed : Type 0
OverIsClosed = (settings : Settings) (goal : Option Goal) (h : List Entry) → is_over settings goal h ≡ true → (conn : ℕ) → is_open_in (tables_of settings h) conn ≡ false
