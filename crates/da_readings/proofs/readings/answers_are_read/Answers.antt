use Rattle.da_readings.proofs.OwnAnswers.{answers_are_read}
use Rattle.da_readings.proofs.readings.answers_are_read.Goals as goal

pub returns : goal.returns
returns c = answers_are_read
