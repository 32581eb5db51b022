use Rattle.da_passdb.specs.Cursors.{IsAlong}
use Rattle.da_chains_tests.proofs.passdb.take_all.Given as goal

abbrev pub invariant-loop-answer : goal.invariant-loop-answer
invariant-loop-answer g l = IsAlong l.dbs l.cursor
