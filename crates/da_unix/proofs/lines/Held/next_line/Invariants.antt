use Rattle.std.proofs.Common.{◌-◌, length}
use Rattle.std.specs.Io.KnownBytes.{Keeps, prepend_known}
use Rattle.da_unix.proofs.lines.Held.next_line.Given as goal

abbrev pub invariant-loop-self : goal.invariant-loop-self
invariant-loop-self g l = Keeps (prepend_known l.fn.self.bytes.items (g.R.Read.remaining l.fn.from)) (prepend_known l.self.bytes.items (g.R.Read.remaining l.from))

abbrev pub decreases-loop-self : goal.decreases-loop-self
decreases-loop-self g l = 8193 - length l.self.bytes.items
