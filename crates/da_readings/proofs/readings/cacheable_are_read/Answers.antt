use Rattle.da_readings.proofs.AnswerReadings.{cacheable_are_read}
use Rattle.da_readings.proofs.readings.cacheable_are_read.Goals as goal

pub returns : goal.returns
returns c = cacheable_are_read
