use Rattle.da_token.proofs.OneThing.{right_decided}
use Rattle.da_token.proofs.judging.right.Goals as goal

pub returns-clause-right : goal.returns-clause-right
returns-clause-right c = right_decided c.args.keys.now c.args.issuer.now c.args.moment c.args.token.now _ c.judged.ensures
