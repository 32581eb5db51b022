use Rattle.std.proofs.Common.{All, length}
use Rattle.da_turn.specs.Seats.{IsFree, IsOf}
use Rattle.da_port_tests.proofs.crew.join_all.Given as goal

abbrev pub invariant-loop-done : goal.invariant-loop-done
invariant-loop-done g l = (IsOf l.fn.port l.seat × IsFree l.seat) × All (λ d. IsOf l.fn.port d.seat × IsFree d.seat) l.dones.items

abbrev pub decreases-loop-done : goal.decreases-loop-done
decreases-loop-done g l = length l.dones.items
