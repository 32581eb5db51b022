use Rattle.std.specs.Io.KnownBytes.{Keeps}
use Rattle.da_unix.proofs.patient.PatientWrite.write.Given as goal

abbrev pub invariant-loop : goal.invariant-loop
invariant-loop g l = Keeps (g.T.Write.contents l.fn.self.inner) (g.T.Write.contents l.self.inner)
