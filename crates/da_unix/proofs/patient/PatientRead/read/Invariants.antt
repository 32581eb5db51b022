use Rattle.std.specs.Io.KnownBytes.{Keeps}
use Rattle.da_unix.proofs.patient.PatientRead.read.Given as goal

abbrev pub invariant-loop : goal.invariant-loop
invariant-loop g l = Keeps (g.T.Read.remaining l.fn.self.inner) (g.T.Read.remaining l.self.inner)
