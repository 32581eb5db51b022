use Rattle.std.proofs.Common.{length}
use Rattle.da_names.proofs.Matching.{Follows}
use Rattle.da_names.proofs.filters.reach.Given as goal

abbrev pub invariant-literals : goal.invariant-literals
invariant-literals l = Follows l.pattern l.name l.rest l.left

abbrev pub decreases-literals : goal.decreases-literals
decreases-literals l = length l.rest
