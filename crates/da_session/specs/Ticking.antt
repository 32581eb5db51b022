-- What the loop that lets time pass recorded.
use Rattle.std.specs.Prelude.{◌≡◌, ℕ, true, ⊤, List, [], ◌∷◌, ◌++◌, Some}
use Rattle.da_core.specs.Clock.{due_at}
use Rattle.da_core.specs.declared.clock.Due.{Due}
use Rattle.da_play.specs.declared.input.Entry.{Entry}
use Rattle.da_play.specs.declared.input.Input.{Input}
use Rattle.da_play.specs.declared.input.Input.TheVariants.{Answered, Broken, Gone, Late, Line, Opened, Take, Tick}
use Rattle.da_port.specs.Calls.{PortSeat}
use Rattle.da_port.specs.Terms.{served_on}
use Rattle.da_port.specs.declared.terms.Terms.{Terms}
use Rattle.da_session.specs.Made.{IsMade}
use Rattle.da_turn.specs.Entries.{IsLater}
use Rattle.da_turn.specs.Seats.{seen, made}

-- the input is one that is due: a Tick where a reply is, or the limit of a request, or a Late of the query that is late
abbrev pub IsDueInput : Due → Input → Type 0
IsDueInput due Tick = due.reply ≡ true
IsDueInput due (Late query) = due.query ≡ Some query
IsDueInput due (Opened kind random) = ⊥
IsDueInput due (Line conn text random) = ⊥
IsDueInput due (Broken conn) = ⊥
IsDueInput due (Gone conn) = ⊥
IsDueInput due Take = ⊥
IsDueInput due (Answered query answer) = ⊥

-- The entry was due, for the moment at which it was handed in: so it was told of a part of the history seen, which goes on
-- from the old one.
pub record IsDueEntry (terms : Terms) (may_tell : ℕ → Type 0) (old seen : List Entry) (numbered : ℕ × Entry) : Type 0 where
  pub looked : List Entry
  pub later : IsLater old looked
  pub input : Input
  pub made : IsMade terms may_tell looked seen input numbered
  pub due : IsDueInput (due_at (served_on terms looked) made.moment) input

-- each of the entries was due after the one before it was made
abbrev pub AreDue : Terms → (ℕ → Type 0) → List Entry → List Entry → List (ℕ × Entry) → Type 0
AreDue terms may_tell old seen [] = ⊤
AreDue terms may_tell old seen (numbered ∷ entries) =
    (is : IsDueEntry terms may_tell old seen numbered) × AreDue terms may_tell (numbered.1 ∷ is.made.before) seen entries

-- the seat made just these entries, and each was due
pub record RecordsDue (terms : Terms) (may_tell : ℕ → Type 0) (s t : PortSeat) : Type 0 where
  pub later : IsLater (seen s) (seen t)
  pub entries : List (ℕ × Entry)
  pub gains : made t ≡ made s ++ entries
  pub each : AreDue terms may_tell (seen s) (seen t) entries
