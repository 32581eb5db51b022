use Rattle.std.proofs.Common.{◌∙◌, rules}
use Rattle.std.proofs.lemmas.Result.{on_ok_weaker}
use Rattle.da_base.specs.Words.{nth}
use Rattle.da_tables.specs.Bridges.{answered_with}
use Rattle.da_tables.specs.RecordedAnswers.{answered_by}
use Rattle.da_answers.proofs.AnsweredRows.{answered-alike}
use Rattle.da_tables.proofs.Rows.{changed-alike}
use Rattle.da_answers.proofs.recording.answer_row.Goals as goal

pub returns : goal.returns
returns c = λ a here.
    let same = answered-alike c.args.settings.now c.args.moment c.args.answer c.in_ok-comparison.comparison c.args.requests.now c.args.queries.now c.args.number a c.in-Some.query_row.now
    (search rules) here (search rules) in
    on_ok_weaker c.put_in_row.result
    (λ e. e ∙ changed-alike (answered_with c.args.moment c.in_ok-comparison.comparison c.args.answer) (answered_by c.args.settings.now c.args.moment (nth c.args.requests.now a.request) c.args.answer)
    c.args.queries.now c.args.number a here same)
    c.put_in_row.ensures
