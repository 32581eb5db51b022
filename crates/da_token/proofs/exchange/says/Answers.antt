use Rattle.da_token.proofs.OneThing.{oauth_bearer_says_from}
use Rattle.da_token.proofs.exchange.says.Goals as goal

pub returns-clause-says : goal.returns-clause-says
returns-clause-says c = oauth_bearer_says_from c.args.keys.now c.args.issuer.now c.args.start c.args.messages.now _ _ c.said_to.ensures
