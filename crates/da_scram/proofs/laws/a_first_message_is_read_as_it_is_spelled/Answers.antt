use Rattle.da_scram.proofs.FirstReading.{first_message-is, first_message_from}
use Rattle.da_scram.proofs.laws.a_first_message_is_read_as_it_is_spelled.Goals as goal

pub returns-clause-read : goal.returns-clause-read
returns-clause-read c = first_message-is

pub returns-clause-spelled : goal.returns-clause-spelled
returns-clause-spelled c = first_message_from
