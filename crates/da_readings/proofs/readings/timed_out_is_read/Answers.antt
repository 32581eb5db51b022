use Rattle.da_readings.proofs.LimitReadings.{timed_out_is_read}
use Rattle.da_readings.proofs.readings.timed_out_is_read.Goals as goal

pub returns : goal.returns
returns c = timed_out_is_read
