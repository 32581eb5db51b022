use Rattle.std.proofs.Common.{All, length}
use Rattle.da_turn.specs.Seats.{IsOf, IsFree}
use Rattle.da_turn_bench.proofs.crew.join_all.Given as goal

abbrev pub invariant-loop-other : goal.invariant-loop-other
invariant-loop-other l = (IsOf l.fn.turn l.seat × IsFree l.seat) × All (λ s. IsOf l.fn.turn s × IsFree s) l.seats.items

abbrev pub decreases-loop-other : goal.decreases-loop-other
decreases-loop-other l = length l.seats.items
