use Rattle.da_plain.proofs.PlainMessages.{says_from}
use Rattle.da_plain.proofs.plain.plain_says.Goals as goal

pub returns-clause-says : goal.returns-clause-says
returns-clause-says c = says_from c.args.messages.now _ c.said_to.ensures
