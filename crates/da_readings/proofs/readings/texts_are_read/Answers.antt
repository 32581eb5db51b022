use Rattle.da_readings.proofs.TextReadings.{texts_are_read}
use Rattle.da_readings.proofs.readings.texts_are_read.Goals as goal

pub returns : goal.returns
returns c = texts_are_read
