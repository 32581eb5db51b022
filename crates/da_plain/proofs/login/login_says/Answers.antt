use Rattle.da_plain.proofs.LoginMessages.{login_says_from}
use Rattle.da_plain.proofs.login.login_says.Goals as goal

pub returns-clause-says : goal.returns-clause-says
returns-clause-says c = login_says_from c.args.messages.now _ c.said_to.ensures
