use Rattle.std.proofs.Common.{All, ◌≡◌}
use Rattle.da_turn.specs.Seats.{IsOf, IsFree}
use Rattle.da_threads.proofs.shared.Shared.accept_loop.Given as goal

abbrev pub invariant-loop : goal.invariant-loop
invariant-loop g l = (IsOf l.fn.self.port.now l.seat × IsFree l.seat)
    × All (λ p. (p.writer.promise.0.now ≡ l.fn.self.port.now) × (p.reader.promise.0.now ≡ l.fn.self.port.now)) l.pairs.items
