use Rattle.da_readings.proofs.RequestReadings.{decided_is_first}
use Rattle.da_readings.proofs.readings.decided_is_first.Goals as goal

pub returns : goal.returns
returns c = decided_is_first
