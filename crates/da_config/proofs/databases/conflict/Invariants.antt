use Rattle.std.proofs.Common.{◌≡◌, drop}
use Rattle.da_settings.specs.SettingsRanges.{first_conflict}
use Rattle.da_config.proofs.databases.conflict.Given as goal

abbrev pub invariant-loop-db : goal.invariant-loop-db
invariant-loop-db l = first_conflict (drop l.db-index l.dbs) ≡ first_conflict l.dbs
