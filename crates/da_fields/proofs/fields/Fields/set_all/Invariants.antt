use Rattle.std.proofs.Common.{◌≡◌, drop}
use Rattle.da_fields.specs.FieldList.{with_fields}
use Rattle.da_fields.proofs.fields.Fields.set_all.Given as goal

abbrev pub invariant-loop-key : goal.invariant-loop-key
invariant-loop-key l = with_fields l.self (drop l.key-index l.key-items) ≡ with_fields l.fn.self l.key-items
