use Rattle.da_invariants.proofs.Standing.{what_is_done_stands}
use Rattle.da_invariants.proofs.invariants.what_is_done_stands.Goals as goal

pub returns : goal.returns
returns c = what_is_done_stands
