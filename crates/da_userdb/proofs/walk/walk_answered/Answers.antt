use Rattle.std.proofs.Common.{sym, ◌∙◌}
use Rattle.std.proofs.lemmas.Result.{IfOk-weaker}
use Rattle.da_userdb.specs.UserPlaces.{lookup_of}
use Rattle.da_userdb.proofs.UserWalks.{walk_answered}
use Rattle.da_userdb.proofs.walk.walk_answered.Goals as goal

pub returns-in-GoesOn-clause-rest : goal.returns-in-GoesOn-clause-rest
returns-in-GoesOn-clause-rest c =
    IfOk-weaker c.walk.result _ _ (λ place rest. λ db answers here given.
    rest answers
    ∙ sym (
    walk_answered c.args.dbs.now c.args.index (lookup_of c.args.subject.now) c.args.progress.now c.args.answer.now c.index-dbs-index.result _
    c.index-dbs-index.is c.requires.asked (rw c.in-GoesOn.is at c.in_ok-judge_answer.ensures) db answers here given
    ))
    c.walk.ensures.rest

pub returns-in-Ends-clause-rest : goal.returns-in-Ends-clause-rest
returns-in-Ends-clause-rest c = λ db answers here given.
    sym (
    walk_answered c.args.dbs.now c.args.index (lookup_of c.args.subject.now) c.args.progress.now c.args.answer.now c.index-dbs-index.result _
    c.index-dbs-index.is c.requires.asked (rw c.in-Ends.is at c.in_ok-judge_answer.ensures) db answers here given
    )
