use Rattle.da_invariants.proofs.AskedTwice.{asked_again_where_lost}
use Rattle.da_invariants.proofs.invariants.asked_again_where_lost.Goals as goal

pub returns : goal.returns
returns c = asked_again_where_lost
