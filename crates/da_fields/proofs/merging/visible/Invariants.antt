use Rattle.std.proofs.Common.{◌≡◌, ◌++◌, drop}
use Rattle.da_fields.specs.FieldList.{visible}
use Rattle.da_fields.proofs.merging.visible.Given as goal

abbrev pub invariant-loop-key : goal.invariant-loop-key
invariant-loop-key l = l.reported.items ++ visible (drop l.key-index l.key-items) ≡ visible l.key-items
