use Rattle.da_scram.proofs.FinalReading.{final_message-is, final_message_from}
use Rattle.da_scram.proofs.laws.a_last_message_is_read_as_it_is_spelled.Goals as goal

pub returns-clause-read : goal.returns-clause-read
returns-clause-read c = final_message-is

pub returns-clause-spelled : goal.returns-clause-spelled
returns-clause-spelled c = final_message_from
