use Rattle.std.proofs.Common.{Some, ◌∙◌}
use Rattle.std.proofs.lemmas.Result.{IfOk-weaker}
use Rattle.da_passdb.specs.Places.{asked_name}
use Rattle.da_passdb.proofs.Moves.{asked_denied, asked_others}
use Rattle.da_passdb.proofs.step.judge_answer.Goals as goal

pub returns-then-db-clause-moves : goal.returns-then-db-clause-moves
returns-then-db-clause-moves c =
    c.denied.ensures.moves c.args.db.now (asked_name c.args.part c.args.login.now) c.args.progress.now
    ∙ asked_denied c.args.part c.args.db.now c.args.login.now c.args.progress.now (Some c.args.answer.now) c.if-db.true

pub returns-then-db-clause-jumps : goal.returns-then-db-clause-jumps
returns-then-db-clause-jumps c = c.denied.ensures.jumps c.args.part

pub returns-clause-moves : goal.returns-clause-moves
returns-clause-moves c =
    IfOk-weaker c.follow.result _ _ (λ course moves.
    moves (asked_name c.args.part c.args.login.now)
    ∙ asked_others c.args.part c.args.db.now c.args.login.now c.args.progress.now (Some c.args.answer.now) c.if-db.false)
    c.follow.ensures.moves
