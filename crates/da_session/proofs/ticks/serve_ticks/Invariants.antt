use Rattle.da_session.specs.Bridges.{Sits}
use Rattle.da_session.specs.Ticking.{RecordsDue}
use Rattle.da_session.proofs.ticks.serve_ticks.Given as goal

abbrev pub invariant-loop : goal.invariant-loop
invariant-loop g l = record {
  seat : Sits l.fn.seat l.seat;
  run : RecordsDue l.fn.port.fixed (g.C.Clock.may_tell l.fn.clock) l.fn.seat l.seat;
}
