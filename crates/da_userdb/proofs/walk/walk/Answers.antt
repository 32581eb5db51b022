use Rattle.std.proofs.Common.{arith, ◌∙◌}
use Rattle.da_userdb.specs.UserPlaces.{lookup_of}
use Rattle.da_userdb.proofs.UserWalks.{walk_goes_on, walk_ends}
use Rattle.da_userdb.proofs.walk.walk.Goals as goal

pub returns-in-Ends-clause-rest : goal.returns-in-Ends-clause-rest
returns-in-Ends-clause-rest c = λ more.
    walk_ends c.args.dbs.now c.loop-index.index c.index-dbs-index.result (lookup_of c.args.subject.now) c.args.answers.now more c.loop-index.progress
    c.visit.new.progress (omega arith) c.index-dbs-index.is (rw (c.in-Ends.is, c.answer_from-answer.ensures) at c.in_ok-visit.ensures.moves)
    ∙ c.loop-index.invariant more

pub loop-index-preserved : goal.loop-index-preserved
loop-index-preserved c = λ more.
    walk_goes_on c.args.dbs.now c.loop-index.index c.index-dbs-index.result (lookup_of c.args.subject.now) c.args.answers.now more c.loop-index.progress
    c.visit.new.progress (omega arith) c.index-dbs-index.is (rw (c.in-GoesOn.is, c.answer_from-answer.ensures) at c.in_ok-visit.ensures.moves)
    ∙ c.loop-index.invariant more
