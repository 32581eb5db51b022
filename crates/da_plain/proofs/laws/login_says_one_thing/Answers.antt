use Rattle.da_plain.proofs.LoginMessages.{says-login_says, login_alone}
use Rattle.da_plain.proofs.laws.login_says_one_thing.Goals as goal

pub returns-clause-comes : goal.returns-clause-comes
returns-clause-comes c = says-login_says

pub returns-clause-alone : goal.returns-clause-alone
returns-clause-alone c = login_alone
