use Rattle.da_invariants.proofs.Names.{process_numbers_are_distinct}
use Rattle.da_invariants.proofs.invariants.process_numbers_are_distinct.Goals as goal

pub returns : goal.returns
returns c = process_numbers_are_distinct
