use Rattle.da_turn.specs.Seats.{seen}
use Rattle.da_finish.proofs.Ends.{ended_stays}
use Rattle.da_threads.proofs.seats.take_in.Goals as goal

pub returns-clause-ended : goal.returns-clause-ended
returns-clause-ended c = ended_stays c.args.port.now.fixed (seen c.args.seat.now) (seen c.join.new.seat) c.join.ensures.later.0
