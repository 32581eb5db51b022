use Rattle.std.proofs.Common.{All}
use Rattle.da_turn.specs.Seats.{IsOf, IsFree}
use Rattle.da_turn_bench.proofs.crew.jobs.Given as goal

abbrev pub invariant-loop-thread : goal.invariant-loop-thread
invariant-loop-thread l = (IsOf l.fn.turn l.seat × IsFree l.seat) × All (λ j. IsOf l.fn.turn j.seat × IsFree j.seat) l.jobs.items
