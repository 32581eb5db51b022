use Rattle.std.proofs.Common.{arith, refl}
use Rattle.da_play.proofs.FewRows.{all_rows_fit}
use Rattle.da_entry.proofs.replayed.Replayed.refusal.Goals as goal

pub input_refusal-requires-clause-connections : goal.input_refusal-requires-clause-connections
input_refusal-requires-clause-connections c =
    (all_rows_fit c.args.settings.now c.args.entries.now _ c.args.self.now.tables c.requires.tables (omega (arith, c.if-is_full.ensures.few refl))).connections

pub input_refusal-requires-clause-queries : goal.input_refusal-requires-clause-queries
input_refusal-requires-clause-queries c =
    (all_rows_fit c.args.settings.now c.args.entries.now _ c.args.self.now.tables c.requires.tables (omega (arith, c.if-is_full.ensures.few refl))).queries
