use Rattle.std.proofs.Common.{◌≡◌, ◌+◌, length}
use Rattle.da_names.specs.Stars.{some_ending_matches}
use Rattle.da_names.proofs.filters.some_ending_matches.Given as goal

abbrev pub invariant-attempts : goal.invariant-attempts
invariant-attempts l = some_ending_matches l.rest l.left ≡ some_ending_matches l.pattern l.name

abbrev pub decreases-attempts : goal.decreases-attempts
decreases-attempts l = length l.rest + length l.left
