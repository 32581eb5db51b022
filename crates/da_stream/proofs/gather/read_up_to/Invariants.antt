use Rattle.std.proofs.Common.{◌+◌, ◌-◌, ◌≤◌, length}
use Rattle.std.specs.Io.KnownBytes.{Consumes}
use Rattle.da_stream.proofs.gather.read_up_to.Given as goal

abbrev pub invariant-read : goal.invariant-read
invariant-read g l = record {
  reads : Consumes (g.S.Source.state l.fn.source).left (g.S.Source.state l.source).left l.bytes.items;
  few : length l.bytes.items ≤ l.max + 4096;
  later : (g.S.Source.state l.fn.source).faults ≤ (g.S.Source.state l.source).faults;
}

abbrev pub decreases-read : goal.decreases-read
decreases-read g l = l.max + 1 - length l.bytes.items
