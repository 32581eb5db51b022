use Rattle.std.proofs.Common.{length}
use Rattle.da_passdb.proofs.Walks.{IsReached, steps_left}
use Rattle.da_passdb.proofs.walk.walk.Given as goal

abbrev pub invariant-databases : goal.invariant-databases
invariant-databases l = IsReached l.dbs l.login l.answers l.fn.from_part l.fn.from l.fn.before l.part l.index l.progress

abbrev pub decreases-databases : goal.decreases-databases
decreases-databases l = steps_left l.part l.index (length l.dbs)
