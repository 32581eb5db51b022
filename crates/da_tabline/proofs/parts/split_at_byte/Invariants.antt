use Rattle.std.proofs.Common.{take}
use Rattle.da_tabline.specs.Parts.{Lacks}
use Rattle.da_tabline.proofs.parts.split_at_byte.Given as goal

abbrev pub invariant-loop-at : goal.invariant-loop-at
invariant-loop-at l = Lacks l.byte (take l.at l.text)
