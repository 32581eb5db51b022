use Rattle.da_readings.proofs.ComparisonReadings.{comparisons_are_read}
use Rattle.da_readings.proofs.readings.comparisons_are_read.Goals as goal

pub returns : goal.returns
returns c = comparisons_are_read
