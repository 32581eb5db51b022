use Rattle.da_laws.proofs.ComparisonLaw.{hints_are_compared}
use Rattle.da_laws.proofs.laws.hints_are_compared.Goals as goal

pub returns : goal.returns
returns c = hints_are_compared
