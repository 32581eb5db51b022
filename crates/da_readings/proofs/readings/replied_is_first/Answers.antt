use Rattle.da_readings.proofs.RequestReadings.{replied_is_first}
use Rattle.da_readings.proofs.readings.replied_is_first.Goals as goal

pub returns : goal.returns
returns c = replied_is_first
