use Rattle.da_turn.specs.Seats.{IsFree, IsOf}
use Rattle.da_port_tests.proofs.waits.keep_time.Given as goal

abbrev pub invariant-loop : goal.invariant-loop
invariant-loop g l = IsOf l.fn.port l.seat × IsFree l.seat
