use Rattle.da_turn.specs.Seats.{IsOf, IsFree, seen}
use Rattle.da_finish.specs.Printed.{HasEnded}
use Rattle.da_threads.proofs.seats.join_all.Given as goal

abbrev pub invariant-loop-sitter : goal.invariant-loop-sitter
invariant-loop-sitter g l = record {
  own : IsOf l.fn.port l.seat × IsFree l.seat;
  ended : HasEnded l.fn.port.fixed (seen l.fn.seat) → HasEnded l.fn.port.fixed (seen l.seat);
}
