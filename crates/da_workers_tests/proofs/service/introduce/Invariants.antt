use Rattle.da_turn.specs.Seats.{IsFree, IsOf}
use Rattle.da_workers_tests.proofs.service.introduce.Given as goal

abbrev pub invariant-loop-line : goal.invariant-loop-line
invariant-loop-line g l = IsOf l.fn.port l.seat × IsFree l.seat
