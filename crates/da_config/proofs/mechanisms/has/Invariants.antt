use Rattle.std.proofs.Common.{◌≡◌, drop}
use Rattle.da_settings.specs.SettingsRanges.{has_mechanism}
use Rattle.da_config.proofs.mechanisms.has.Given as goal

abbrev pub invariant-loop-other : goal.invariant-loop-other
invariant-loop-other l = has_mechanism l.mech (drop l.other-index l.mechs) ≡ has_mechanism l.mech l.mechs
