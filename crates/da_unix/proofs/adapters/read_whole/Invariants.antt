use Rattle.std.proofs.Common.{◌+◌, ◌-◌, ◌≤◌, length, vec_len}
use Rattle.std.specs.Io.KnownBytes.{Consumes}
use Rattle.da_unix.proofs.adapters.read_whole.Given as goal

abbrev pub invariant-loop-chunk : goal.invariant-loop-chunk
invariant-loop-chunk g l = record {
  taken : Consumes (g.R.Read.remaining l.fn.file) (g.R.Read.remaining l.file) l.bytes.items;
  within : length l.bytes.items ≤ l.max + 4096;
}

abbrev pub decreases-loop-chunk : goal.decreases-loop-chunk
decreases-loop-chunk g l = l.max + 1 - vec_len l.bytes
