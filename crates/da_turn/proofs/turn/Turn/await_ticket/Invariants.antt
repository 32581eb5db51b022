use Rattle.std.proofs.Common.{◌-◌}
use Rattle.da_turn.proofs.turn.Turn.await_ticket.Given as goal

abbrev pub invariant-loop-sleeps : goal.invariant-loop-sleeps
invariant-loop-sleeps g l = Unit {0}

abbrev pub decreases-loop-sleeps : goal.decreases-loop-sleeps
decreases-loop-sleeps g l = 16 - l.sleeps
