use Rattle.da_msgs.proofs.MasterReading.{master_message-spells, master_message_from}
use Rattle.da_msgs.proofs.laws.a_master_line_is_read_as_it_spells.Goals as goal

pub returns-clause-read : goal.returns-clause-read
returns-clause-read c = master_message-spells

pub returns-clause-spelled : goal.returns-clause-spelled
returns-clause-spelled c = master_message_from
