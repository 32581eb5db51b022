use Rattle.std.proofs.Common.{◌≡◌, take}
use Rattle.da_settings.proofs.lists.Userdbs.copy.Given as goal

abbrev pub invariant-loop-db : goal.invariant-loop-db
invariant-loop-db l = l.items.items ≡ take l.db-index l.db-items
