use Rattle.std.proofs.Common.{◌∙◌, ◌<◌, ap, arith, length, map}
use Rattle.std.proofs.lemmas.List.{length-reverse}
use Rattle.da_core.proofs.Further.{is_next}
use Rattle.da_core.specs.Bridges.{next_due}
use Rattle.da_play.specs.Served.{Served}
use Rattle.da_core.proofs.server.Core.plan.Goals as goal

pub enter-requires-clause-few : goal.enter-requires-clause-few
enter-requires-clause-few c = omega (arith, c.requires, length-reverse c.self.inside.entries.items, ap length c.deref.ensures.value, ap (λ (s : Served). length s.history) c.self.view_is)

pub returns-clause-next : goal.returns-clause-next
returns-clause-next c =
    let few : length c.deref.result.now < 4294967294 = omega (arith, c.requires, length-reverse c.self.inside.entries.items, ap length c.deref.ensures.value, ap (λ (s : Served). length s.history) c.self.view_is) in
    is_next c.self.inside.settings c.self.inside.goal c.deref.result.now c.self.inside.entries.items c.args.self.now c.in_ok-entered.entered c.in_ok-dues.dues.items c.deref.ensures.value c.self.view_is
    c.in_ok-entered.ensures.outputs c.in_ok-entered.ensures.replayed few
    (c.in_ok-dues.ensures ∙ ap (map (next_due c.self.inside.settings)) c.all-requests.ensures)
