use Rattle.std.proofs.Common.{arith, refl, length, ◌∙◌, ◌++◌}
use Rattle.std.proofs.lemmas.Option.{slice_get_read}
use Rattle.da_passdb.proofs.Moves.{asked_here}
use Rattle.da_passdb.proofs.Walks.{walk_goes_on, walk_ends, walk_jumps, walk_done, further_on, further_jump}
use Rattle.da_passdb.proofs.walk.walk.Goals as goal

pub databases-preserved-in-GoesOn : goal.databases-preserved-in-GoesOn
databases-preserved-in-GoesOn c =
    record {
      rest = λ more.
          walk_goes_on c.databases.part c.args.dbs.now c.args.login.now c.databases.index c.index-dbs-index.result c.args.answers.now more c.databases.progress
          c.visit.new.progress (omega arith) c.index-dbs-index.is (rw (c.in-GoesOn.is, c.answer_from-answer.ensures) at c.in_ok-visit.ensures.moves)
          ∙ c.databases.invariant.rest more;
      further = further_on c.args.from_part c.args.from c.databases.part c.databases.index c.databases.invariant.further;
    }

pub databases-preserved : goal.databases-preserved
databases-preserved c =
    let masters = rw c.in-Jumps.is at c.in_ok-visit.ensures.jumps in
    record {
      rest = λ more.
          walk_jumps c.databases.part c.args.dbs.now c.args.login.now c.databases.index c.index-dbs-index.result c.args.answers.now more c.databases.progress
          c.visit.new.progress (omega arith) c.index-dbs-index.is (rw (c.in-Jumps.is, c.answer_from-answer.ensures) at c.in_ok-visit.ensures.moves) masters
          ∙ c.databases.invariant.rest more;
      further = further_jump c.args.from_part c.args.from c.databases.part c.databases.index masters c.databases.invariant.further;
    }

pub returns-in-Asks-clause-is_there : goal.returns-in-Asks-clause-is_there
returns-in-Asks-clause-is_there c = (
  c.index-dbs-index.result,
  slice_get_read c.args.dbs.now (length c.args.dbs.now) c.databases.index c.index-dbs-index.result refl (omega arith) c.index-dbs-index.is,
  asked_here c.databases.part c.index-dbs-index.result c.args.login.now c.args.answers.now c.databases.progress c.visit.new.progress _
      (rw c.in-Asks.is at c.in_ok-visit.ensures.moves) (rw c.in-Asks.is at c.in_ok-visit.ensures.asks) c.answer_from-answer.ensures,
)

pub returns-in-Ends-clause-rest : goal.returns-in-Ends-clause-rest
returns-in-Ends-clause-rest c = λ more.
    walk_ends c.databases.part c.args.dbs.now c.args.login.now c.databases.index c.index-dbs-index.result c.args.answers.now more c.databases.progress
    c.visit.new.progress c.in-Ends.kind (omega arith) c.index-dbs-index.is (rw (c.in-Ends.is, c.answer_from-answer.ensures) at c.in_ok-visit.ensures.moves)
    ∙ c.databases.invariant.rest more

pub returns-clause-rest : goal.returns-clause-rest
returns-clause-rest c = λ more.
    walk_done c.databases.part c.args.dbs.now c.args.login.now c.databases.index (c.args.answers.now ++ more) c.databases.progress c.end.result (omega arith)
    c.end.ensures
    ∙ c.databases.invariant.rest more
