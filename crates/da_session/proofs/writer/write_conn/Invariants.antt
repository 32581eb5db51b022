use Rattle.da_session.proofs.Writings.{Writing}
use Rattle.da_session.specs.Bridges.{Sits}
use Rattle.da_session.proofs.writer.write_conn.Given as goal

abbrev pub invariant-loop : goal.invariant-loop
invariant-loop g l = record {
  seat : Sits l.fn.seat l.seat;
  run : Writing l.fn.port.fixed l.fn.conn (g.K.Sink.state l.fn.sink) (g.K.Sink.state l.sink) l.fn.seat l.seat l.from;
}
