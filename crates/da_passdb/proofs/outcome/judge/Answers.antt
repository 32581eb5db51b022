use Rattle.da_passdb.proofs.Moves.{judged_passed}
use Rattle.da_passdb.proofs.outcome.judge.Goals as goal

pub returns-in_ok-outcome-in-Passed : goal.returns-in_ok-outcome-in-Passed
returns-in_ok-outcome-in-Passed c =
    judged_passed c.args.db.now c.args.login.now c.args.checked _ c.args.answer.now c.unread.result c.in_ok-outcome-in-Passed.outcome c.in-Passed.is c.unread.ensures
    (c.in_ok-outcome-in-Passed.ensures {u = tt})
