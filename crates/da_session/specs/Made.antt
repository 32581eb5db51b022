-- Entries that a call made through its seat.
use Rattle.std.specs.Prelude.{◌≡◌, ℕ, List, ◌∷◌, length}
use Rattle.da_turn.specs.Entries.{IsLater}
use Rattle.da_play.specs.Play.{next_entry}
use Rattle.da_play.specs.declared.input.Entry.{Entry}
use Rattle.da_play.specs.declared.input.Input.{Input}
use Rattle.da_port.specs.declared.terms.Terms.{Terms}

-- This entry, with its number, was made of this input: it stands in the history seen, after a part of it that goes on from
-- the old history, at a moment that the clock may tell, or at the last entry's where that is later.
pub record IsMade (terms : Terms) (may_tell : ℕ → Type 0) (old seen : List Entry) (input : Input) (numbered : ℕ × Entry) : Type 0 where
  pub before : List Entry
  pub moment : ℕ
  pub told : may_tell moment
  pub later : IsLater old before
  pub stands : IsLater (numbered.1 ∷ before) seen
  pub number : numbered.0 ≡ length (numbered.1 ∷ before)
  pub is_entry : numbered.1 ≡ next_entry terms.settings before moment input
