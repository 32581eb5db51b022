use Rattle.std.proofs.Common.{ap}
use Rattle.std.proofs.lemmas.Result.{on_ok_weaker}
use Rattle.da_answers.proofs.recording.answer_query.Goals as goal

pub returns : goal.returns
returns c = λ a here.
    on_ok_weaker c.answer_row.result (ap (λ rows. record c.args.tables.now { queries = rows })) (c.answer_row.ensures a here)
