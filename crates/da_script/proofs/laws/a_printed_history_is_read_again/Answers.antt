use Rattle.da_script.proofs.ScriptReading.{events-script}
use Rattle.da_script.proofs.laws.a_printed_history_is_read_again.Goals as goal

pub returns : goal.returns
returns c = events-script
