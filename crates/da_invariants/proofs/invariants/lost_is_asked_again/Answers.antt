use Rattle.da_invariants.proofs.AskedAgain.{lost_is_asked_again}
use Rattle.da_invariants.proofs.invariants.lost_is_asked_again.Goals as goal

pub returns : goal.returns
returns c = lost_is_asked_again
