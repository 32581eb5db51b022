use Rattle.da_laws.proofs.LimitLaw.{timed_out_is_told}
use Rattle.da_laws.proofs.limit_laws.timed_out_is_told.Goals as goal

pub returns : goal.returns
returns c = timed_out_is_told
