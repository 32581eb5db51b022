use Rattle.std.proofs.Common.{◌≡◌, length}
use Rattle.da_base.specs.Words.{pieces}
use Rattle.da_worker.specs.Passwd.{with_items, extra_fields}
use Rattle.da_worker.proofs.passwd.extra_fields.Given as goal

abbrev pub invariant-items : goal.invariant-items
invariant-items l = with_items l.fields (pieces 32 l.rest) ≡ extra_fields l.extra

abbrev pub decreases-items : goal.decreases-items
decreases-items l = length l.rest
