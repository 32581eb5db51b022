use Rattle.da_worker.proofs.Complete.{completes}
use Rattle.da_worker.proofs.laws.a_good_input_is_answered.Goals as goal

pub returns : goal.returns
returns c = completes
