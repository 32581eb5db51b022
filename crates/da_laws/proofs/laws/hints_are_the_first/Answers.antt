use Rattle.da_laws.proofs.HintLaw.{hints_are_the_first}
use Rattle.da_laws.proofs.laws.hints_are_the_first.Goals as goal

pub returns : goal.returns
returns c = hints_are_the_first
