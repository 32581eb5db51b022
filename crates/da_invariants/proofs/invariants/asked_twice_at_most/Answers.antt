use Rattle.da_invariants.proofs.AskedTwice.{asked_twice_at_most}
use Rattle.da_invariants.proofs.invariants.asked_twice_at_most.Goals as goal

pub returns : goal.returns
returns c = asked_twice_at_most
