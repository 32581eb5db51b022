-- What a reader of a connection recorded of the bytes that its source gave, and why it ended.
use Rattle.std.specs.Prelude.{◌≡◌, ◌⊎◌, ℕ, Bool, true, false, List, ◌++◌, Option, Some, None}
use Rattle.std.specs.Io.KnownBytes.{Consumes, IsAtEnd}
use Rattle.da_base.specs.Words.{Bytes}
use Rattle.da_outside.specs.Causes.{Rose}
use Rattle.da_outside.specs.Source.{SourceState}
use Rattle.da_play.specs.History.{tables_of}
use Rattle.da_play.specs.Legal.{is_full}
use Rattle.da_play.specs.declared.input.Input.{Input}
use Rattle.da_play.specs.declared.input.Input.TheVariants.{Broken, Gone}
use Rattle.da_port.specs.Calls.{PortSeat}
use Rattle.da_port.specs.declared.terms.Terms.{Terms}
use Rattle.da_session.specs.Sessions.{RecordsLinesThen}
use Rattle.da_session.specs.declared.ends.ReadEnd.{ReadEnd}
use Rattle.da_session.specs.declared.ends.ReadEnd.TheVariants.{Closed, Ended, Cut, NoMemory, Full}
use Rattle.da_tabline.specs.Lines.{line_cut}
use Rattle.da_tables.specs.Tables.{is_open_in}
use Rattle.da_turn.specs.Seats.{seen}

-- All whole lines of the bytes given were recorded, up to the first of more than 8,192 bytes, and then the end.
pub record RecordsAll (terms : Terms) (may_tell : ℕ → Type 0) (draws : Option (ℕ → Bytes)) (conn : ℕ) (before after : SourceState) (s t : PortSeat) (is_long : Bool) (end : Option Input) : Type 0 where
  pub bytes : Bytes
  pub gives : Consumes before.left after.left bytes
  -- whether a line of more than 8,192 bytes came, whole or not
  pub is_so_long : (line_cut 8192 bytes).is_long ≡ is_long
  pub records : RecordsLinesThen terms may_tell draws conn s t (line_cut 8192 bytes).lines end

-- The first of the whole lines of the bytes given were recorded, and then the end. The others are left out.
pub record RecordsFirst (terms : Terms) (may_tell : ℕ → Type 0) (draws : Option (ℕ → Bytes)) (conn : ℕ) (before after : SourceState) (s t : PortSeat) (end : Option Input) : Type 0 where
  pub bytes : Bytes
  pub gives : Consumes before.left after.left bytes
  pub lines : List Bytes
  pub others : List Bytes
  pub are_lines : (line_cut 8192 bytes).lines ≡ lines ++ others
  pub records : RecordsLinesThen terms may_tell draws conn s t lines end

-- the connection isn't open in what the seat has seen
abbrev pub IsNotOpen : Terms → ℕ → PortSeat → Type 0
IsNotOpen terms conn t = is_open_in (tables_of terms.settings (seen t)) conn ≡ false

-- By the answer.
--   Closed: the connection isn't open. Either a line was recorded for the last time, or none, and no end; or a line was too
--     long, and Broken was recorded.
--   Ended: the source ended, and Gone was recorded. A rest without LF is left out.
--   Cut: the source failed, and Gone was recorded.
--   NoMemory: memory was wanted, and Gone was recorded.
--   Full: the history is full, and no end was recorded.
abbrev pub ReadsConn : Terms → (ℕ → Type 0) → Option (ℕ → Bytes) → ℕ → SourceState → SourceState → PortSeat → PortSeat → ReadEnd → Type 0
ReadsConn terms may_tell draws conn before after s t Closed =
    (RecordsFirst terms may_tell draws conn before after s t None ⊎ RecordsAll terms may_tell draws conn before after s t true (Some (Broken conn)))
    × IsNotOpen terms conn t
ReadsConn terms may_tell draws conn before after s t Ended =
    RecordsAll terms may_tell draws conn before after s t false (Some (Gone conn)) × IsAtEnd after.left
ReadsConn terms may_tell draws conn before after s t Cut =
    RecordsAll terms may_tell draws conn before after s t false (Some (Gone conn)) × Rose before.faults after.faults
ReadsConn terms may_tell draws conn before after s t NoMemory = RecordsFirst terms may_tell draws conn before after s t (Some (Gone conn))
ReadsConn terms may_tell draws conn before after s t Full =
    RecordsFirst terms may_tell draws conn before after s t None × (is_full terms.settings (seen t) ≡ true)
