use Rattle.std.proofs.Common.{arith}
use Rattle.da_play.proofs.FewRows.{all_rows_fit}
use Rattle.da_entry.proofs.replayed.Replayed.enter.Goals as goal

pub enter-requires-clause-requests : goal.enter-requires-clause-requests
enter-requires-clause-requests c = (all_rows_fit c.args.settings.now c.args.entries.now _ c.args.self.tables c.requires.replayed.tables (omega (arith, c.requires.few))).requests

pub enter-requires-clause-connections : goal.enter-requires-clause-connections
enter-requires-clause-connections c = (all_rows_fit c.args.settings.now c.args.entries.now _ c.args.self.tables c.requires.replayed.tables (omega (arith, c.requires.few))).connections

pub enter-requires-clause-queries : goal.enter-requires-clause-queries
enter-requires-clause-queries c = (all_rows_fit c.args.settings.now c.args.entries.now _ c.args.self.tables c.requires.replayed.tables (omega (arith, c.requires.few))).queries
