use Rattle.da_scram.proofs.FirstReading.{too_few}
use Rattle.da_scram.proofs.first_message.cut_first.Goals as goal

pub returns-in-None : goal.returns-in-None
returns-in-None c = too_few c.args.text.now c.in-None.ensures
