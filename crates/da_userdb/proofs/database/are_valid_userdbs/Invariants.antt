use Rattle.std.proofs.Common.{◌≡◌, ◌+◌, drop}
use Rattle.da_userdb.specs.UserChain.{are_valid_from, are_valid_userdbs}
use Rattle.da_userdb.proofs.database.are_valid_userdbs.Given as goal

abbrev pub invariant-loop-index : goal.invariant-loop-index
invariant-loop-index l = are_valid_from (l.index + 1) (drop l.index l.dbs) ≡ are_valid_userdbs l.dbs
