use Rattle.da_msgs.proofs.ToldOnce.{a_failure_tells_its_code}
use Rattle.da_msgs.proofs.laws.a_failure_tells_its_code.Goals as goal

pub returns : goal.returns
returns c = a_failure_tells_its_code
