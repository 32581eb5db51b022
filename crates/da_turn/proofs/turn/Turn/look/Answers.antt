use Rattle.std.proofs.Common.{rules}
use Rattle.da_turn.proofs.Keeps.{looks}
use Rattle.da_turn.proofs.turn.Turn.look.Goals as goal

pub load-found-requires : goal.load-found-requires
load-found-requires g c = (search rules, search rules, looks _ _ _ _ _ _ _ c.requires.1)
