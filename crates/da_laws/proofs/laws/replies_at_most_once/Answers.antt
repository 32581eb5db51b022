use Rattle.da_laws.proofs.RepliedOnce.{replies_at_most_once}
use Rattle.da_laws.proofs.laws.replies_at_most_once.Goals as goal

pub returns : goal.returns
returns c = replies_at_most_once
