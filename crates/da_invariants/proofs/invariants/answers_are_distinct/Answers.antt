use Rattle.da_invariants.proofs.Distinct.{answers_are_distinct}
use Rattle.da_invariants.proofs.invariants.answers_are_distinct.Goals as goal

pub returns : goal.returns
returns c = answers_are_distinct
