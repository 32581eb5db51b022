use Rattle.da_scram.proofs.OneThing.{scram_says-comes, scram_says-alone}
use Rattle.da_scram.proofs.laws.scram_says_one_thing.Goals as goal

pub returns-clause-comes : goal.returns-clause-comes
returns-clause-comes c = scram_says-comes

pub returns-clause-alone : goal.returns-clause-alone
returns-clause-alone c = scram_says-alone
