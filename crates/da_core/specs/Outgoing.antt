-- What a connection gets of the lines that were sent to it.
use Rattle.std.specs.Prelude.{◌≡◌, ◌+◌, ◌-◌, ◌++◌, ◌&&◌, ◌||◌, ℕ, Bool, not, length, min, nat_le, take, drop}
use Rattle.da_base.specs.Words.{Bytes}
use Rattle.da_core.specs.declared.outgoing.Taken.{Taken}
use Rattle.da_play.specs.Effects.{wire}
use Rattle.da_play.specs.History.{tables_of}
use Rattle.da_play.specs.Legal.{is_full, is_over}
use Rattle.da_play.specs.Served.{Served}
use Rattle.da_tables.specs.Tables.{is_open_in}

-- the bytes of the lines to a connection, each with its LF
abbrev pub wire_to : Served → ℕ → Bytes
wire_to served conn = wire served.settings served.history conn

-- nothing more is sent to the connection
abbrev pub has_ended : Served → ℕ → Bool
has_ended served conn =
    not (is_open_in (tables_of served.settings served.history) conn)
    || is_full served.settings served.history
    || is_over served.settings served.goal served.history

-- the bytes from a place on were copied into the front of a buffer, as many as fit
pub record TakesLines (served : Served) (conn from : ℕ) (before now : Bytes) (taken : Taken) : Type 0 where
  pub count : taken.count ≡ min (length before) (length (wire_to served conn) - from)
  pub copied : now ≡ take taken.count (drop from (wire_to served conn)) ++ drop taken.count before
  pub ended : taken.ended ≡ (has_ended served conn && nat_le (length (wire_to served conn)) (from + taken.count))
