use Rattle.std.proofs.Common.{◌≡◌, length}
use Rattle.da_settings.specs.SettingsRanges.{are_distinct}
use Rattle.da_config.proofs.mechanisms.distinct.Given as goal

abbrev pub invariant-loop-first : goal.invariant-loop-first
invariant-loop-first l = are_distinct l.rest ≡ are_distinct l.fn.mechs

abbrev pub decreases-loop-first : goal.decreases-loop-first
decreases-loop-first l = length l.rest
