use Rattle.da_port.specs.Calls.{Looks}
use Rattle.da_session.specs.Bridges.{Sits}
use Rattle.da_session.proofs.reader.part.Given as goal

abbrev pub invariant-loop : goal.invariant-loop
invariant-loop g l = record {
  seat : Sits l.fn.seat l.seat;
  look : Looks l.fn.seat l.seat;
}
