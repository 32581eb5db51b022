use Rattle.da_laws.proofs.LimitLaw.{no_limit_is_passed}
use Rattle.da_laws.proofs.limit_laws.no_limit_is_passed.Goals as goal

pub returns : goal.returns
returns c = no_limit_is_passed
