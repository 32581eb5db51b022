use Rattle.da_token.proofs.MessageReading.{bearer_read-is, bearer_read_from}
use Rattle.da_token.proofs.laws.a_message_is_read_as_it_is_spelled.Goals as goal

pub returns-clause-read : goal.returns-clause-read
returns-clause-read c = bearer_read-is

pub returns-clause-spelled : goal.returns-clause-spelled
returns-clause-spelled c = bearer_read_from
