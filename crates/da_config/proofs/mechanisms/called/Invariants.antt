use Rattle.std.proofs.Common.{◌≡◌, drop}
use Rattle.da_config.specs.Mechanisms.{mechanisms_called}
use Rattle.da_config.proofs.Prepending.{prepended}
use Rattle.da_config.proofs.mechanisms.called.Given as goal

abbrev pub invariant-loop-name : goal.invariant-loop-name
invariant-loop-name l = prepended l.mechs.items (mechanisms_called (drop l.name-index l.names)) ≡ mechanisms_called l.names
