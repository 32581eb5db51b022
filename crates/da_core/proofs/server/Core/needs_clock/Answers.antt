use Rattle.std.proofs.Common.{◌≡◌, ◌∙◌, refl, true, false, is_some}
use Rattle.std.specs.List.{list_any}
use Rattle.da_core.proofs.Told.{clock_is}
use Rattle.da_tables.specs.Queries.{is_running}
use Rattle.da_core.proofs.server.Core.needs_clock.Goals as goal

pub returns-then-runs : goal.returns-then-runs
returns-then-runs c =
    let on : c.some_runs-runs.result ≡ true = cc in
    let runs : true ≡ list_any is_running c.self.inside.replayed.tables.queries = cc in
    on ∙ clock_is c.self.inside.settings c.self.inside.goal c.self.inside.entries.items c.args.self.now c.self.inside.replayed c.self.inside.dues.items c.self.inside.outboxes c.self.view_is c.self.invariant
    true (list_any is_some c.self.inside.dues.items) runs refl

pub returns-else-runs : goal.returns-else-runs
returns-else-runs c =
    let runs : false ≡ list_any is_running c.self.inside.replayed.tables.queries = cc in
    clock_is c.self.inside.settings c.self.inside.goal c.self.inside.entries.items c.args.self.now c.self.inside.replayed c.self.inside.dues.items c.self.inside.outboxes c.self.view_is c.self.invariant
    false c.some_is_set-is_awaited.result runs (cc)
