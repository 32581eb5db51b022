use Rattle.da_session.proofs.Readings.{Reading}
use Rattle.da_session.specs.Bridges.{Sits}
use Rattle.da_session.proofs.lines.read_lines.Given as goal

abbrev pub invariant-loop : goal.invariant-loop
invariant-loop g l = record {
  seat : Sits l.fn.seat l.seat;
  run : Reading l.fn.port.fixed (g.C.Clock.may_tell l.fn.clock) (g.G.Rand.draws l.fn.rand) (g.G.Rand.draws l.rand) l.fn.conn (g.S.Source.state l.fn.source) (g.S.Source.state l.source) l.fn.seat l.seat l.lines;
}
