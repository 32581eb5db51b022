use Rattle.da_turn.specs.Seats.{IsFree, IsOf}
use Rattle.da_port_tests.proofs.waits.ask.Given as goal

abbrev pub invariant-loop-number : goal.invariant-loop-number
invariant-loop-number g l = IsOf l.fn.port l.seat × IsFree l.seat
