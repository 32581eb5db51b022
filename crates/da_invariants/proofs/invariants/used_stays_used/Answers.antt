use Rattle.da_invariants.proofs.Standing.{used_stays_used}
use Rattle.da_invariants.proofs.invariants.used_stays_used.Goals as goal

pub returns : goal.returns
returns c = used_stays_used
