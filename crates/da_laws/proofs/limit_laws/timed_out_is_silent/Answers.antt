use Rattle.da_laws.proofs.LimitLaw.{timed_out_is_silent}
use Rattle.da_laws.proofs.limit_laws.timed_out_is_silent.Goals as goal

pub returns : goal.returns
returns c = timed_out_is_silent
