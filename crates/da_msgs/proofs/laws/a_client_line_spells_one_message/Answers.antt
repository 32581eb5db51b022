use Rattle.da_msgs.proofs.ClientReading.{one_client_message}
use Rattle.da_msgs.proofs.laws.a_client_line_spells_one_message.Goals as goal

pub returns : goal.returns
returns c = one_client_message
