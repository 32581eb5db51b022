use Rattle.std.proofs.Common.{take}
use Rattle.da_fields.specs.FieldList.{LacksKey}
use Rattle.da_fields.proofs.fields.place_of.Given as goal

abbrev pub invariant-loop-at : goal.invariant-loop-at
invariant-loop-at l = LacksKey l.key (take l.at l.pairs)
