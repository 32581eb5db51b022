use Rattle.std.proofs.Common.{◌∙◌}
use Rattle.std.proofs.lemmas.Result.{IfOk-weaker}
use Rattle.da_passdb.proofs.Walks.{answered_goes_on, answered_jumps, answered_ends}
use Rattle.da_passdb.proofs.walk.walk_answered.Goals as goal

pub returns-in-GoesOn-clause-rest : goal.returns-in-GoesOn-clause-rest
returns-in-GoesOn-clause-rest c =
    IfOk-weaker c.walk.result _ _ (λ after rest. λ db answers here given.
    rest answers
    ∙ answered_goes_on c.args.stand.part c.args.dbs.now c.args.login.now c.args.index c.args.stand.progress c.judge_answer.new.progress c.args.answer.now
    c.index-dbs-index.result c.index-dbs-index.is c.requires.asked (rw c.in-GoesOn.is at c.in_ok-judge_answer.ensures.moves) db answers here given)
    c.walk.ensures.rest

pub returns-in-Jumps-clause-rest : goal.returns-in-Jumps-clause-rest
returns-in-Jumps-clause-rest c =
    IfOk-weaker c.walk-in-Jumps.result _ _ (λ after rest. λ db answers here given.
    rest answers
    ∙ answered_jumps c.args.stand.part c.args.dbs.now c.args.login.now c.args.index c.args.stand.progress c.judge_answer.new.progress c.args.answer.now
    c.index-dbs-index.result c.index-dbs-index.is c.requires.asked (rw c.in-Jumps.is at c.in_ok-judge_answer.ensures.moves)
    (rw c.in-Jumps.is at c.in_ok-judge_answer.ensures.jumps) db answers here given)
    c.walk-in-Jumps.ensures.rest

pub returns-in-Ends-clause-rest : goal.returns-in-Ends-clause-rest
returns-in-Ends-clause-rest c = λ db answers here given.
    answered_ends c.args.stand.part c.args.dbs.now c.args.login.now c.args.index c.args.stand.progress c.judge_answer.new.progress c.in-Ends.kind c.args.answer.now
    c.index-dbs-index.result c.index-dbs-index.is c.requires.asked (rw c.in-Ends.is at c.in_ok-judge_answer.ensures.moves) db answers here given
