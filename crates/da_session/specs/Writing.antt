-- What a writer of a connection wrote, and why it ended.
use Rattle.std.specs.Prelude.{◌≡◌, ℕ, true, ◌++◌}
use Rattle.std.specs.Io.KnownBytes.{Appends}
use Rattle.da_base.specs.Words.{Bytes}
use Rattle.da_core.specs.Outgoing.{has_ended, wire_to}
use Rattle.da_outside.specs.Causes.{Rose}
use Rattle.da_outside.specs.Sink.{SinkState}
use Rattle.da_port.specs.Calls.{Looks, PortSeat}
use Rattle.da_port.specs.Terms.{served_on}
use Rattle.da_port.specs.declared.terms.Terms.{Terms}
use Rattle.da_session.specs.declared.ends.WriteEnd.{WriteEnd}
use Rattle.da_session.specs.declared.ends.WriteEnd.TheVariants.{Ended, Cut}
use Rattle.da_turn.specs.Seats.{seen}

-- the bytes of the lines to the connection, of what the seat has seen
abbrev pub wire_seen : Terms → ℕ → PortSeat → Bytes
wire_seen terms conn t = wire_to (served_on terms (seen t)) conn

-- The sink took a front of the connection's bytes, in order.
pub record WritesFront (terms : Terms) (conn : ℕ) (before after : SinkState) (t : PortSeat) : Type 0 where
  pub front : Bytes
  pub rest : Bytes
  pub is_front : wire_seen terms conn t ≡ front ++ rest
  pub written : Appends before.contents after.contents front

-- By the answer; no entry was made.
--   Ended: nothing more comes for the connection, and the sink took all of its bytes.
--   Cut: the sink failed, and took a front of them.
abbrev pub WritesConn : Terms → ℕ → SinkState → SinkState → PortSeat → PortSeat → WriteEnd → Type 0
WritesConn terms conn before after s t Ended =
    Looks s t × (has_ended (served_on terms (seen t)) conn ≡ true) × Appends before.contents after.contents (wire_seen terms conn t)
WritesConn terms conn before after s t Cut = Looks s t × WritesFront terms conn before after t × Rose before.faults after.faults
