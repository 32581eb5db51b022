use Rattle.std.proofs.Common.{◌≡◌, ◌-◌, take, drop}
use Rattle.std.specs.Prelude.{option_map}
use Rattle.da_nets.specs.Addresses.{around_run}
use Rattle.da_nets.proofs.Runs.{behind}
use Rattle.da_nets.proofs.address.around_run.Given as goal

abbrev pub invariant-loop-at : goal.invariant-loop-at
invariant-loop-at l = option_map (behind (take (l.at - 1) l.text)) (around_run (drop (l.at - 1) l.text)) ≡ around_run l.text
