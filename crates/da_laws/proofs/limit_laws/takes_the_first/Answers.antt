use Rattle.da_laws.proofs.LimitLaw.{takes_the_first}
use Rattle.da_laws.proofs.limit_laws.takes_the_first.Goals as goal

pub returns : goal.returns
returns c = takes_the_first
