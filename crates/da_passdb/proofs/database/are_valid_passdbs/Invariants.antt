use Rattle.std.proofs.Common.{◌≡◌, ◌+◌, drop}
use Rattle.da_passdb.specs.LoginChain.{are_valid_from, are_valid_passdbs}
use Rattle.da_passdb.proofs.database.are_valid_passdbs.Given as goal

abbrev pub invariant-loop-index : goal.invariant-loop-index
invariant-loop-index l = are_valid_from (l.index + 1) (drop l.index l.dbs) ≡ are_valid_passdbs l.dbs
