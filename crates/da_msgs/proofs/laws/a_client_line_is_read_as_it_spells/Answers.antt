use Rattle.da_msgs.proofs.ClientReading.{client_message-spells, client_message_from}
use Rattle.da_msgs.proofs.laws.a_client_line_is_read_as_it_spells.Goals as goal

pub returns-clause-read : goal.returns-clause-read
returns-clause-read c = client_message-spells

pub returns-clause-spelled : goal.returns-clause-spelled
returns-clause-spelled c = client_message_from
