use Rattle.std.proofs.Common.{subst, sym}
use Rattle.da_port.proofs.Answered.{no_query_is_taken, query_is_taken}
use Rattle.da_port.specs.Calls.{TakesQuery}
use Rattle.da_port.proofs.port.Port.take_query.Goals as goal

pub returns-in-Ok-clause-taken : goal.returns-in-Ok-clause-taken
returns-in-Ok-clause-taken g c = query_is_taken c.args.self.now.fixed c.args.seat.now c.enter.new.seat c.args.moment c.in-Ok.out c.in-Ok.ensures.ok

pub returns-in-Err-clause-taken : goal.returns-in-Err-clause-taken
returns-in-Err-clause-taken g c =
    subst (λ r. TakesQuery c.args.self.now.fixed c.args.seat.now c.enter.new.seat c.args.moment r) (sym c.no_query.ensures)
    (no_query_is_taken c.args.self.now.fixed c.args.seat.now c.enter.new.seat c.args.moment c.in-Err.refused c.in-Err.ensures.err)
