use Rattle.std.proofs.Common.{◌≡◌, length, []}
use Rattle.da_query.proofs.FieldTexts.{fields_with}
use Rattle.da_query.proofs.answers.fields_of.Given as goal

abbrev pub invariant-loop-fields : goal.invariant-loop-fields
invariant-loop-fields l = fields_with l.fields l.left ≡ fields_with [] l.fn.left

abbrev pub decreases-loop-fields : goal.decreases-loop-fields
decreases-loop-fields l = length l.left
