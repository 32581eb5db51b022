-- Bridges: what the server works with between its calls. Only the code cites them.
use Rattle.std.specs.Prelude.{◌≡◌, ◌⊎◌, ℕ, List, Some, None, Result, Ok, Err}
use Rattle.da_entry.specs.declared.replayed.Entered.{Entered}
use Rattle.da_play.specs.Legal.{entry_moment}
use Rattle.da_play.specs.Play.{next_entry, outputs, refusal}
use Rattle.da_play.specs.declared.input.Entry.{Entry}
use Rattle.da_play.specs.declared.input.Input.{Input}
use Rattle.da_play.specs.declared.outputs.Refused.{Refused}
use Rattle.da_play.specs.declared.outputs.Refused.TheVariants.{NoMemory}
use Rattle.da_settings.specs.declared.settings.Settings.{Settings}

-- what comes of an input after a history: the next entry and what it gives out, or the first reason that applies. Want
-- of memory may stand in place of either.
abbrev pub Tries : Settings → List Entry → ℕ → Input → Result Entered Refused → Type 0
Tries settings h moment input (Ok entered) =
    (refusal settings h (entry_moment h moment) input ≡ None) × (entered.entry ≡ next_entry settings h moment input)
    × (entered.outputs ≡ outputs settings h (next_entry settings h moment input))
Tries settings h moment input (Err refused) = (refused ≡ NoMemory) ⊎ (refusal settings h (entry_moment h moment) input ≡ Some refused)
