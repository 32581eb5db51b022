use Rattle.da_readings.proofs.QueryReadings.{queries_are_read}
use Rattle.da_readings.proofs.readings.queries_are_read.Goals as goal

pub returns : goal.returns
returns c = queries_are_read
