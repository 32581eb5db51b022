use Rattle.std.proofs.Common.{rules, length}
use Rattle.std.specs.Prelude.{◌<◌, ◌≡◌, None}
use Rattle.std.proofs.lemmas.Result.{on_ok_weaker}
use Rattle.da_base.specs.Words.{nth}
use Rattle.da_tables.specs.Queries.{used_again}
use Rattle.da_tables.proofs.Rows.{changed-missing, changed-set-of}
use Rattle.da_tables.proofs.queries.use_row_again.Goals as goal

pub returns-in_default : goal.returns-in_default
returns-in_default c =
    let missing : nth c.args.queries.now c.args.number ≡ None = search rules in
    changed-missing (used_again c.args.comparison) c.args.queries.now c.args.number missing

pub returns : goal.returns
returns c =
    let within : c.in-Some.index < length c.queries.inside.items.items = search rules in
    let same : c.queries.inside.items.items ≡ c.args.queries.now = search rules in
    on_ok_weaker c.use_again.result
    (changed-set-of (used_again c.args.comparison) c.queries.inside.items.items c.args.queries.now c.args.number c.in-Some.index
    c.index_mut-query_row.result.now c.use_again.new.query_row same (c.in-Some.ensures {u = tt}).0 within c.index_mut-query_row.ensures.value)
    c.use_again.ensures
