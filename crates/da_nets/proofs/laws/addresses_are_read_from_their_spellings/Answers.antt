use Rattle.da_nets.proofs.SpellingLemmas.{address_is_spelled, spelling_is_read}
use Rattle.da_nets.proofs.laws.addresses_are_read_from_their_spellings.Goals as goal

pub returns-clause-spelled : goal.returns-clause-spelled
returns-clause-spelled c = address_is_spelled

pub returns-clause-read : goal.returns-clause-read
returns-clause-read c = spelling_is_read
