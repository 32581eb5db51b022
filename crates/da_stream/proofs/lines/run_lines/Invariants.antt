use Rattle.std.proofs.Common.{◌≡◌, length}
use Rattle.da_stream.proofs.Running.{Running}
use Rattle.da_stream.proofs.lines.run_lines.Given as goal

abbrev pub invariant-read : goal.invariant-read
invariant-read g l = record {
  run : Running g.H.LineHandler.takes l.fn.line_max (g.S.Source.state l.fn.input) (g.S.Source.state l.input) l.fn.handler l.handler l.lines l.number l.budget;
  long : l.is_long ≡ l.lines.is_long;
  same : g.H.LineHandler.same l.fn.handler l.handler;
}

abbrev pub decreases-read : goal.decreases-read
decreases-read g l = l.budget

abbrev pub invariant-lines : goal.invariant-lines
invariant-lines g l = record {
  run : Running g.H.LineHandler.takes l.fn.line_max (g.S.Source.state l.fn.input) (g.S.Source.state l.input) l.fn.handler l.handler l.lines l.number l.budget;
  long : l.is_long ≡ l.lines.is_long;
  same : g.H.LineHandler.same l.fn.handler l.handler;
}

abbrev pub decreases-lines : goal.decreases-lines
decreases-lines g l = length l.lines.ready
