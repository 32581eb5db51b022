use Rattle.std.proofs.Common.{subst, sym, arith, reverse, take}
use Rattle.da_entry.proofs.Replays.{passes_on}
use Rattle.da_entry.specs.Bridges.{IsReplayed}
use Rattle.da_play.proofs.FewRows.{rows_fit}
use Rattle.da_hist.proofs.Replays.{one_further}
use Rattle.da_hist.proofs.replay.replay.Goals as goal

pub pass-requires-clause-requests : goal.pass-requires-clause-requests
pass-requires-clause-requests c = (rows_fit c.args.settings.now c.args.entries.now c.loop-entry.entry-index _ c.loop-entry.replayed.tables c.loop-entry.invariant.tables c.requires).requests

pub pass-requires-clause-connections : goal.pass-requires-clause-connections
pass-requires-clause-connections c = (rows_fit c.args.settings.now c.args.entries.now c.loop-entry.entry-index _ c.loop-entry.replayed.tables c.loop-entry.invariant.tables c.requires).connections

pub pass-requires-clause-queries : goal.pass-requires-clause-queries
pass-requires-clause-queries c = (rows_fit c.args.settings.now c.args.entries.now c.loop-entry.entry-index _ c.loop-entry.replayed.tables c.loop-entry.invariant.tables c.requires).queries

pub loop-entry-preserved : goal.loop-entry-preserved
loop-entry-preserved c =
    let further = one_further c.args.entries.now c.loop-entry.entry-index c.entry-item.result c.entry-item.result (omega (arith, c.loop-entry-test.true, c.loop-entry.auto.entry-index-end)) (cc) in
    subst (λ h. IsReplayed c.args.settings.now h c.pass.new.self) (sym further)
    (passes_on c.args.settings.now (reverse (take c.loop-entry.entry-index c.args.entries.now)) c.entry-item.result c.loop-entry.replayed c.pass.new.self c.loop-entry.invariant c.in_ok-pass.ensures)
