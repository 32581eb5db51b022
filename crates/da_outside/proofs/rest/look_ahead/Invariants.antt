use Rattle.std.proofs.Common.{take}
use Rattle.da_outside.specs.Rest.{LacksEnd}
use Rattle.da_outside.proofs.rest.look_ahead.Given as goal

abbrev pub invariant-loop-at : goal.invariant-loop-at
invariant-loop-at l = LacksEnd (take l.at l.near)
