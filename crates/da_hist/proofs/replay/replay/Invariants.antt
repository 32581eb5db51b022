use Rattle.std.proofs.Common.{take, reverse}
use Rattle.da_entry.specs.Bridges.{IsReplayed}
use Rattle.da_hist.proofs.replay.replay.Given as goal

abbrev pub invariant-loop-entry : goal.invariant-loop-entry
invariant-loop-entry l = IsReplayed l.settings (reverse (take l.entry-index l.entries)) l.replayed
