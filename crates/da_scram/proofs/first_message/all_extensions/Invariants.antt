use Rattle.std.proofs.Common.{◌≡◌, length}
use Rattle.std.specs.List.{list_all}
use Rattle.da_base.specs.Words.{pieces}
use Rattle.da_scram.specs.Messages.{is_extension}
use Rattle.da_scram.proofs.first_message.all_extensions.Given as goal

abbrev pub invariant-pieces : goal.invariant-pieces
invariant-pieces l = list_all is_extension (pieces 44 l.rest) ≡ list_all is_extension (pieces 44 l.fn.text)

abbrev pub decreases-pieces : goal.decreases-pieces
decreases-pieces l = length l.rest
