use Rattle.da_readings.proofs.ConnectionReadings.{connections_are_read}
use Rattle.da_readings.proofs.readings.connections_are_read.Goals as goal

pub returns : goal.returns
returns c = connections_are_read
