use Rattle.std.proofs.Common.{◌≡◌, drop}
use Rattle.da_fields.specs.FieldList.{field}
use Rattle.da_fields.proofs.fields.Fields.get.Given as goal

abbrev pub invariant-loop-name : goal.invariant-loop-name
invariant-loop-name l = field l.key (drop l.name-index l.name-items) ≡ field l.key l.name-items
