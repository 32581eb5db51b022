use Rattle.da_script.proofs.EventReading.{event_of-spells, event_of-from}
use Rattle.da_script.proofs.laws.an_event_is_read_as_it_spells.Goals as goal

pub returns-clause-read : goal.returns-clause-read
returns-clause-read c = event_of-spells

pub returns-clause-spelled : goal.returns-clause-spelled
returns-clause-spelled c = event_of-from
