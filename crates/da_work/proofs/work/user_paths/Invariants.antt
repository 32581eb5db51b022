use Rattle.std.proofs.Common.{◌≡◌, map, take}
use Rattle.da_work.specs.Work.{user_path}
use Rattle.da_work.proofs.work.user_paths.Given as goal

abbrev pub invariant-loop-db : goal.invariant-loop-db
invariant-loop-db l = l.paths.items ≡ map user_path (take l.db-index l.dbs)
