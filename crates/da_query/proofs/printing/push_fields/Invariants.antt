use Rattle.std.proofs.Common.{◌≡◌, ◌++◌, drop, map}
use Rattle.da_fields.specs.FieldList.{field_text}
use Rattle.da_tabline.specs.Spelling.{more_fields}
use Rattle.da_query.proofs.printing.push_fields.Given as goal

abbrev pub invariant-loop-key : goal.invariant-loop-key
invariant-loop-key l =
    l.line.items ++ more_fields (map field_text (drop l.key-index l.key-items)) ≡ l.fn.line.items ++ more_fields (map field_text l.key-items)
