use Rattle.std.proofs.Common.{ℕ, None, option_map}
use Rattle.da_turn.specs.Seats.{IsFree, IsOf}
use Rattle.da_workers.specs.Bridges.{Sits}
use Rattle.da_workers.specs.Working.{Rounds, Serves, standing}
use Rattle.da_workers.proofs.worker.serve_worker.Given as goal

abbrev pub invariant-loop : goal.invariant-loop
invariant-loop g l =
    (IsOf l.fn.port l.seat × IsFree l.seat)
    × Sits l.fn.seat l.seat
    × ((n : ℕ) × Rounds (Serves l.fn.port.fixed (g.C.Clock.may_tell l.fn.clock)) n
    (standing l.fn.seat (g.P.Spawner.state l.fn.spawner) None (g.U.Runner.state l.fn.runner))
    (standing l.seat (g.P.Spawner.state l.spawner) (option_map g.P.Link.Link.state l.link) (g.U.Runner.state l.runner)))
