use Rattle.std.proofs.Common.{◌≡◌, drop}
use Rattle.da_fields.specs.FieldList.{with_defaults}
use Rattle.da_fields.proofs.fields.Fields.set_defaults.Given as goal

abbrev pub invariant-loop-key : goal.invariant-loop-key
invariant-loop-key l = with_defaults l.self (drop l.key-index l.key-items) ≡ with_defaults l.fn.self l.key-items
