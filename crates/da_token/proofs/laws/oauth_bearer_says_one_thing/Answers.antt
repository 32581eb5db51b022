use Rattle.da_token.proofs.OneThing.{oauth_bearer_says-comes, oauth_bearer_says-alone}
use Rattle.da_token.proofs.laws.oauth_bearer_says_one_thing.Goals as goal

pub returns-clause-comes : goal.returns-clause-comes
returns-clause-comes c = oauth_bearer_says-comes

pub returns-clause-alone : goal.returns-clause-alone
returns-clause-alone c = oauth_bearer_says-alone
