use Rattle.da_laws.proofs.LimitLaw.{limits_time_out}
use Rattle.da_laws.proofs.limit_laws.limits_time_out.Goals as goal

pub returns : goal.returns
returns c = limits_time_out
