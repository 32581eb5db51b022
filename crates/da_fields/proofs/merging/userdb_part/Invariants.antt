use Rattle.std.proofs.Common.{◌≡◌, ◌++◌, drop}
use Rattle.da_fields.specs.FieldList.{userdb_part}
use Rattle.da_fields.proofs.merging.userdb_part.Given as goal

abbrev pub invariant-loop-key : goal.invariant-loop-key
invariant-loop-key l = l.part.items ++ userdb_part (drop l.key-index l.key-items) ≡ userdb_part l.key-items
