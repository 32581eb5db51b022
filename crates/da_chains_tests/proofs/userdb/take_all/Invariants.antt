use Rattle.da_userdb.specs.UserCursors.{IsAlong}
use Rattle.da_chains_tests.proofs.userdb.take_all.Given as goal

abbrev pub invariant-loop-answer : goal.invariant-loop-answer
invariant-loop-answer g l = IsAlong l.dbs l.cursor
