use Rattle.std.specs.Io.KnownBytes.{Keeps}
use Rattle.da_unix.proofs.patient.read_on.Given as goal

abbrev pub invariant-loop : goal.invariant-loop
invariant-loop g l = Keeps (g.R.Read.remaining l.fn.from) (g.R.Read.remaining l.from)
