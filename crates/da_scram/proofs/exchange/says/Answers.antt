use Rattle.da_scram.proofs.OneThing.{scram_says_from}
use Rattle.da_scram.proofs.exchange.says.Goals as goal

pub returns-clause-says : goal.returns-clause-says
returns-clause-says c = scram_says_from c.args.nonce.now c.args.salt.now c.args.messages.now _ _ c.said_to.ensures
