use Rattle.std.proofs.Common.{sym, ◌∙◌}
use Rattle.da_names.proofs.Matching.{some_ending_matches-here, some_ending_matches-next}
use Rattle.da_names.proofs.filters.some_ending_matches.Goals as goal

pub returns-in-End : goal.returns-in-End
returns-in-End c = sym (some_ending_matches-here c.attempts.rest.now c.attempts.left.now c.in-End.ensures) ∙ c.attempts.invariant

pub attempts-preserved-in-Star : goal.attempts-preserved-in-Star
attempts-preserved-in-Star c = some_ending_matches-next _ _ _ _ c.in-Star.ensures ∙ c.attempts.invariant
