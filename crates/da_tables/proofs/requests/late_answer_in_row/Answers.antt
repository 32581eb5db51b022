use Rattle.std.proofs.Common.{rules, length}
use Rattle.std.specs.Prelude.{◌<◌, ◌≡◌, None}
use Rattle.std.proofs.lemmas.Result.{on_ok_weaker}
use Rattle.da_base.specs.Words.{nth}
use Rattle.da_request.specs.Requests.{with_late_answer}
use Rattle.da_tables.proofs.Rows.{changed-missing, changed-set-of}
use Rattle.da_tables.proofs.requests.late_answer_in_row.Goals as goal

pub returns-in_default : goal.returns-in_default
returns-in_default c =
    let missing : nth c.args.requests.now c.args.number ≡ None = search rules in
    changed-missing (with_late_answer c.args.db c.args.answer) c.args.requests.now c.args.number missing

pub returns : goal.returns
returns c =
    let within : c.in-Some.index < length c.requests.inside.items.items = search rules in
    let same : c.requests.inside.items.items ≡ c.args.requests.now = search rules in
    on_ok_weaker c.add_late_answer.result
    (changed-set-of (with_late_answer c.args.db c.args.answer) c.requests.inside.items.items c.args.requests.now c.args.number c.in-Some.index
    c.index_mut-request.result.now c.add_late_answer.new.request same (c.in-Some.ensures {u = tt}).0 within c.index_mut-request.ensures.value)
    c.add_late_answer.ensures
