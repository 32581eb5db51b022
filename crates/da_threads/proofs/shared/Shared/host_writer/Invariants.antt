use Rattle.da_turn.specs.Seats.{IsOf, IsFree}
use Rattle.da_threads.proofs.shared.Shared.host_writer.Given as goal

abbrev pub invariant-loop : goal.invariant-loop
invariant-loop g l = IsOf l.fn.self.port.now l.seat × IsFree l.seat
