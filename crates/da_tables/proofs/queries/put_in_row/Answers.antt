use Rattle.std.proofs.Common.{rules, length}
use Rattle.std.specs.Prelude.{◌<◌, ◌≡◌, None}
use Rattle.std.proofs.lemmas.Result.{on_ok_weaker}
use Rattle.da_base.specs.Words.{nth}
use Rattle.da_tables.specs.Bridges.{answered_with}
use Rattle.da_tables.proofs.Rows.{changed-missing, changed-set-of}
use Rattle.da_tables.proofs.queries.put_in_row.Goals as goal

pub returns-in_default : goal.returns-in_default
returns-in_default c =
    let missing : nth c.args.queries.now c.args.number ≡ None = search rules in
    changed-missing (answered_with c.args.moment c.args.comparison c.args.answer) c.args.queries.now c.args.number missing

pub returns : goal.returns
returns c =
    let within : c.in-Some.index < length c.queries.inside.items.items = search rules in
    let same : c.queries.inside.items.items ≡ c.args.queries.now = search rules in
    on_ok_weaker c.put_answer.result
    (changed-set-of (answered_with c.args.moment c.args.comparison c.args.answer) c.queries.inside.items.items c.args.queries.now c.args.number c.in-Some.index
    c.index_mut-query_row.result.now c.put_answer.new.query_row same (c.in-Some.ensures {u = tt}).0 within c.index_mut-query_row.ensures.value)
    c.put_answer.ensures
