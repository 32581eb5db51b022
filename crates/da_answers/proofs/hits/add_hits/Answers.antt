use Rattle.std.proofs.Common.{◌≡◌, ◌∙◌, ap, sym, rules, Some, ◌++◌, ◌∷◌, [], ◌-◌}
use Rattle.da_tables.specs.Hits.{hits_from, with_hit}
use Rattle.da_answers.specs.Bridges.{next_hit}
use Rattle.da_answers.proofs.HitsInTurn.{more_hits, goes_on}
use Rattle.da_answers.proofs.hits.add_hits.Goals as goal

pub loop-left-preserved : goal.loop-left-preserved
loop-left-preserved c =
    let hit = c.in-Some.hit in
    let here : next_hit c.args.settings.now c.args.moment c.args.tables.now c.loop-left.request ≡ Some hit = search rules in
    let after : c.take_hit.new.request ≡ with_hit c.args.tables.now hit.question hit.number c.loop-left.request = search rules in
    let pushed : c.push.new.self.items ≡ c.loop-left.hits.items ++ hit.number ∷ [] = search rules in
    goes_on c.loop-left.hits.items c.push.new.self.items _ _ _ hit.number pushed
    (more_hits c.loop-left.left c.args.settings.now c.args.moment c.args.tables.now c.loop-left.request hit c.loop-left-test.true here
    ∙ ap (λ r. hit.number ∷ hits_from (c.loop-left.left - 1) c.args.settings.now c.args.moment c.args.tables.now r) (sym after))
    c.loop-left.invariant
