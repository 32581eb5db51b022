use Rattle.std.proofs.Common.{All}
use Rattle.da_turn.specs.Seats.{IsFree, IsOf}
use Rattle.da_port_tests.proofs.crew.jobs.Given as goal

abbrev pub invariant-loop-role : goal.invariant-loop-role
invariant-loop-role g l = (IsOf l.fn.port l.seat × IsFree l.seat) × All (λ j. IsOf l.fn.port j.seat × IsFree j.seat) l.jobs.items
