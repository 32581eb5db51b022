use Rattle.da_cram.proofs.Responses.{says-cram_says, cram_says-alone}
use Rattle.da_cram.proofs.laws.cram_says_one_thing.Goals as goal

pub returns-clause-comes : goal.returns-clause-comes
returns-clause-comes c = says-cram_says

pub returns-clause-alone : goal.returns-clause-alone
returns-clause-alone c = cram_says-alone
