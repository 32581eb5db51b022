use Rattle.da_invariants.proofs.Names.{ids_are_distinct}
use Rattle.da_invariants.proofs.invariants.ids_are_distinct.Goals as goal

pub returns : goal.returns
returns c = ids_are_distinct
