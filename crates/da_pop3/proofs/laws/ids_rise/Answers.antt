use Rattle.da_pop3.proofs.SessionSteps.{run-kept}
use Rattle.da_pop3.proofs.laws.ids_rise.Goals as goal

pub returns : goal.returns
returns c = λ pid events. (run-kept pid events).ids
