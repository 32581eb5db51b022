use Rattle.da_invariants.proofs.Standing.{decisions_stand}
use Rattle.da_invariants.proofs.invariants.decisions_stand.Goals as goal

pub returns : goal.returns
returns c = decisions_stand
