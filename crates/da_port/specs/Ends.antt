-- When a loop over a port ends.
use Rattle.std.specs.Prelude.{◌≡◌, true, false, List}
use Rattle.da_play.specs.Legal.{is_full, is_over}
use Rattle.da_play.specs.declared.input.Entry.{Entry}
use Rattle.da_port.specs.declared.ends.LoopEnd.{LoopEnd}
use Rattle.da_port.specs.declared.ends.LoopEnd.TheVariants.{Over, Full}
use Rattle.da_port.specs.declared.terms.Terms.{Terms}

-- By the answer: the history is over, or it is full and not over.
abbrev pub EndsLoop : Terms → List Entry → LoopEnd → Type 0
EndsLoop terms h Over = is_over terms.settings terms.goal h ≡ true
EndsLoop terms h Full = (is_full terms.settings h ≡ true) × (is_over terms.settings terms.goal h ≡ false)

-- the history is neither full nor over
abbrev pub GoesOn : Terms → List Entry → Type 0
GoesOn terms h = (is_full terms.settings h ≡ false) × (is_over terms.settings terms.goal h ≡ false)
