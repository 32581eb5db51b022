use Rattle.da_turn.specs.Seats.{IsOf, IsFree}
use Rattle.da_threads.proofs.shared.Shared.join_pairs.Given as goal

abbrev pub invariant-loop-pair : goal.invariant-loop-pair
invariant-loop-pair g l = IsOf l.fn.self.port.now l.seat × IsFree l.seat
