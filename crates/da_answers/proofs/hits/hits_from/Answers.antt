use Rattle.std.proofs.Common.{◌≡◌, ◌∙◌, sym, rules, Some, ◌<◌}
use Rattle.std.proofs.lemmas.Result.{IfOk-weaker}
use Rattle.da_answers.specs.Bridges.{next_hit}
use Rattle.da_answers.proofs.HitsInTurn.{more_hits}
use Rattle.da_answers.proofs.hits.hits_from.Goals as goal

pub returns-in-Some : goal.returns-in-Some
returns-in-Some c =
    let first = c.in-Some.first in
    let here : next_hit c.args.settings.now c.args.moment c.args.tables.now c.args.request.now ≡ Some first = search rules in
    let some : 0 < c.args.databases = search rules in
    IfOk-weaker c.hits_after.result _ _
    (λ hits is. is ∙ sym (more_hits c.args.databases c.args.settings.now c.args.moment c.args.tables.now c.args.request.now first some here))
    c.hits_after.ensures
