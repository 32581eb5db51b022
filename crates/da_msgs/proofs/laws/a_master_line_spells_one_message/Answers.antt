use Rattle.da_msgs.proofs.MasterReading.{one_master_message}
use Rattle.da_msgs.proofs.laws.a_master_line_spells_one_message.Goals as goal

pub returns : goal.returns
returns c = one_master_message
