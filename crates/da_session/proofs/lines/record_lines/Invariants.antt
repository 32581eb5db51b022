use Rattle.std.proofs.Common.{length}
use Rattle.da_session.proofs.Recordings.{Recording}
use Rattle.da_session.specs.Bridges.{Sits}
use Rattle.da_session.proofs.lines.record_lines.Given as goal

abbrev pub invariant-loop-line : goal.invariant-loop-line
invariant-loop-line g l = record {
  seat : Sits l.fn.seat l.seat;
  run : Recording l.fn.port.fixed (g.C.Clock.may_tell l.fn.clock) (g.G.Rand.draws l.fn.rand) (g.G.Rand.draws l.rand) l.fn.conn l.fn.seat l.seat l.fn.lines l.lines;
}

abbrev pub decreases-loop-line : goal.decreases-loop-line
decreases-loop-line g l = length l.lines.ready
