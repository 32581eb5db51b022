use Rattle.std.proofs.Common.{◌≡◌, map, take}
use Rattle.da_core.specs.Bridges.{next_due}
use Rattle.da_core.proofs.clock.next_dues.Given as goal

abbrev pub invariant-loop-request : goal.invariant-loop-request
invariant-loop-request l = l.dues.items ≡ map (next_due l.settings) (take l.request-index l.requests)
