use Rattle.da_script.proofs.EventReading.{one_event}
use Rattle.da_script.proofs.laws.a_line_spells_one_event.Goals as goal

pub returns : goal.returns
returns c = one_event
