use Rattle.std.proofs.Common.{◌≡◌, None, length}
use Rattle.std.specs.Prelude.{option_copied}
use Rattle.da_base.specs.Words.{pieces}
use Rattle.da_token.specs.Reading.{auth_after}
use Rattle.da_token.proofs.pairs.auth_value.Given as goal

abbrev pub invariant-pairs : goal.invariant-pairs
invariant-pairs l = auth_after (option_copied l.found) (pieces 1 l.rest) ≡ auth_after None (pieces 1 l.fn.body)

abbrev pub decreases-pairs : goal.decreases-pairs
decreases-pairs l = length l.rest
