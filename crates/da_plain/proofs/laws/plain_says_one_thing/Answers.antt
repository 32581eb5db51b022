use Rattle.da_plain.proofs.PlainMessages.{says-plain_says, one_of_plain}
use Rattle.da_plain.proofs.laws.plain_says_one_thing.Goals as goal

pub returns-clause-comes : goal.returns-clause-comes
returns-clause-comes c = says-plain_says

pub returns-clause-alone : goal.returns-clause-alone
returns-clause-alone c = one_of_plain
