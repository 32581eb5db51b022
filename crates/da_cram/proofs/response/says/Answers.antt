use Rattle.da_cram.proofs.Responses.{cram_says_from}
use Rattle.da_cram.proofs.response.says.Goals as goal

pub returns-clause-says : goal.returns-clause-says
returns-clause-says c = cram_says_from c.args.challenge.now c.args.messages.now _ _ c.said_to.ensures
