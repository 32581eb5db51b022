use Rattle.da_pop3.proofs.SessionSteps.{starts_once}
use Rattle.da_pop3.proofs.laws.a_session_starts_once.Goals as goal

pub returns : goal.returns
returns c = starts_once
