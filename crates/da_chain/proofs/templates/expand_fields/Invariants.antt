use Rattle.std.proofs.Common.{◌≡◌, [], drop}
use Rattle.da_fields.specs.FieldList.{with_fields}
use Rattle.da_names.specs.Templates.{expand_fields}
use Rattle.da_chain.proofs.templates.expand_fields.Given as goal

abbrev pub invariant-loop-key : goal.invariant-loop-key
invariant-loop-key l = with_fields l.expanded (expand_fields l.vars (drop l.key-index l.key-items)) ≡ with_fields [] (expand_fields l.vars l.key-items)
