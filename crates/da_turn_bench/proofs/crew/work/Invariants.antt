use Rattle.da_turn.specs.Seats.{IsOf, IsFree}
use Rattle.da_turn_bench.proofs.crew.work.Given as goal

abbrev pub invariant-loop-number : goal.invariant-loop-number
invariant-loop-number g l = IsOf l.fn.turn l.seat × IsFree l.seat
