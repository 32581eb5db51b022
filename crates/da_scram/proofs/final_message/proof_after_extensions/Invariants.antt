use Rattle.std.proofs.Common.{length}
use Rattle.da_base.specs.Words.{pieces}
use Rattle.da_scram.proofs.FinalReading.{Skipping}
use Rattle.da_scram.proofs.final_message.proof_after_extensions.Given as goal

abbrev pub invariant-pieces : goal.invariant-pieces
invariant-pieces l = Skipping (pieces 44 l.fn.parts) (pieces 44 l.rest)

abbrev pub decreases-pieces : goal.decreases-pieces
decreases-pieces l = length l.rest
