use Rattle.std.proofs.Common.{sym}
use Rattle.da_request.proofs.ValidDatabases.{valid_at}
use Rattle.da_request.proofs.uses.use_comparison.Goals as goal

pub password_comparison-requires : goal.password_comparison-requires
password_comparison-requires c = valid_at c.passdbs.result.now c.args.question.now.db c.in-Some-row.db.now c.passdbs.ensures.valid (sym c.in-Some-row.ensures)
