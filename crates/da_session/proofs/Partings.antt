-- The end of a session, after its lines.
use Rattle.std.proofs.Common.{inl, inr, sym, ℕ, Bool, true, false, [], Option, Some, None, append-nil}
use Rattle.da_base.specs.Words.{Bytes}
use Rattle.da_outside.specs.Source.{SourceState}
use Rattle.da_play.specs.declared.input.Input.{Input}
use Rattle.da_play.specs.declared.input.Input.TheVariants.{Broken, Gone}
use Rattle.da_port.specs.Calls.{Looks, PortSeat}
use Rattle.da_port.specs.declared.terms.Terms.{Terms}
use Rattle.da_session.proofs.Entering.{look_on, recorded_after_look}
use Rattle.da_session.proofs.Sessions.{then_end, then_look}
use Rattle.da_session.specs.Reading.{ReadsConn, RecordsAll, RecordsFirst}
use Rattle.da_session.specs.Bridges.{BreaksOff, IsRecorded, Parts, StopsReading, end_after}
use Rattle.da_session.specs.declared.ends.ReadEnd.{ReadEnd}
use Rattle.da_session.specs.declared.ends.ReadEnd.TheVariants.{Closed, Cut, Ended, Full, NoMemory}
use Rattle.da_session.specs.declared.lines.Stop.TheVariants.{End, Fault, NoMemory as StopNoMemory, TooLong}
use Rattle.da_session.specs.declared.reader.Parting.{Parting}
use Rattle.da_session.specs.declared.reader.Parting.TheVariants.{Full as PartFull, NotOpen, Recorded}
use Rattle.da_tabline.specs.Lines.{line_cut}

-- a look before it
pub parts_after_look : (terms : Terms) (may_tell : ℕ → Type 0) (conn : ℕ) (s m t : PortSeat) (p : Parting) → Looks s m → Parts terms may_tell conn m t p → Parts terms may_tell conn s t p
parts_after_look terms may_tell conn s m t Recorded look parts = recorded_after_look terms may_tell s m t (Gone conn) look parts
parts_after_look terms may_tell conn s m t NotOpen look parts = (look_on s m t look parts.0, parts.1)
parts_after_look terms may_tell conn s m t PartFull look parts = (look_on s m t look parts.0, parts.1)

-- Broken wanted memory, and so it went with Gone
pub breaks_by_parting : (terms : Terms) (may_tell : ℕ → Type 0) (conn : ℕ) (s m t : PortSeat) (p : Parting) → Looks s m → Parts terms may_tell conn m t p
    → BreaksOff terms may_tell conn s t (end_after p NoMemory)
breaks_by_parting terms may_tell conn s m t Recorded look parts = recorded_after_look terms may_tell s m t (Gone conn) look parts
breaks_by_parting terms may_tell conn s m t NotOpen look parts = (inl (look_on s m t look parts.0), parts.1)
breaks_by_parting terms may_tell conn s m t PartFull look parts = (look_on s m t look parts.0, parts.1)

module _ (terms : Terms) (may_tell : ℕ → Type 0) (draws : Option (ℕ → Bytes)) (conn : ℕ) (before after : SourceState) (s m t : PortSeat) where
  abbrev First : PortSeat → Option Input → Type 0
  First u end = RecordsFirst terms may_tell draws conn before after s u end

  abbrev All : PortSeat → Bool → Option Input → Type 0
  All u is_long end = RecordsAll terms may_tell draws conn before after s u is_long end

  first_look : First m None → Looks m t → First t None
  first_look r look = record { bytes = r.bytes; gives = r.gives; lines = r.lines; others = r.others; are_lines = r.are_lines; records = then_look terms may_tell conn draws s m t r.lines r.records look }

  first_end : (end : Input) → First m None → IsRecorded terms may_tell m t end → First t (Some end)
  first_end end r i = record { bytes = r.bytes; gives = r.gives; lines = r.lines; others = r.others; are_lines = r.are_lines; records = then_end terms may_tell conn draws s m t r.lines end r.records i }

  all_end : (is_long : Bool) (end : Input) → All m is_long None → IsRecorded terms may_tell m t end → All t is_long (Some end)
  all_end is_long end r i = record { bytes = r.bytes; gives = r.gives; is_so_long = r.is_so_long; records = then_end terms may_tell conn draws s m t (line_cut 8192 r.bytes).lines end r.records i }

  all_first : (is_long : Bool) → All m is_long None → First m None
  all_first is_long r = record { bytes = r.bytes; gives = r.gives; lines = (line_cut 8192 r.bytes).lines; others = []; are_lines = sym (append-nil (line_cut 8192 r.bytes).lines); records = r.records }

  -- ---- by why reading stopped, and how it went with the end

  pub reads_ended : (p : Parting) → StopsReading terms may_tell draws conn before after s m End → Parts terms may_tell conn m t p
      → ReadsConn terms may_tell draws conn before after s t (end_after p Ended)
  reads_ended Recorded stops parts = (all_end false (Gone conn) stops.0 parts, stops.1)
  reads_ended NotOpen stops parts = (inl (first_look (all_first false stops.0) parts.0), parts.1)
  reads_ended PartFull stops parts = (first_look (all_first false stops.0) parts.0, parts.1)

  pub reads_cut : (p : Parting) → StopsReading terms may_tell draws conn before after s m Fault → Parts terms may_tell conn m t p
      → ReadsConn terms may_tell draws conn before after s t (end_after p Cut)
  reads_cut Recorded stops parts = (all_end false (Gone conn) stops.0 parts, stops.1)
  reads_cut NotOpen stops parts = (inl (first_look (all_first false stops.0) parts.0), parts.1)
  reads_cut PartFull stops parts = (first_look (all_first false stops.0) parts.0, parts.1)

  pub reads_unmade : (p : Parting) → StopsReading terms may_tell draws conn before after s m StopNoMemory → Parts terms may_tell conn m t p
      → ReadsConn terms may_tell draws conn before after s t (end_after p NoMemory)
  reads_unmade Recorded stops parts = first_end (Gone conn) stops parts
  reads_unmade NotOpen stops parts = (inl (first_look stops parts.0), parts.1)
  reads_unmade PartFull stops parts = (first_look stops parts.0, parts.1)

  pub reads_broken : (end : ReadEnd) → StopsReading terms may_tell draws conn before after s m TooLong → BreaksOff terms may_tell conn m t end
      → ReadsConn terms may_tell draws conn before after s t end
  reads_broken Closed stops (inl look, closed) = (inl (first_look (all_first true stops) look), closed)
  reads_broken Closed stops (inr recorded, closed) = (inr (all_end true (Broken conn) stops recorded), closed)
  reads_broken Full stops breaks = (first_look (all_first true stops) breaks.0, breaks.1)
  reads_broken NoMemory stops breaks = first_end (Gone conn) (all_first true stops) breaks
  reads_broken Ended stops breaks = absurd breaks
  reads_broken Cut stops breaks = absurd breaks
