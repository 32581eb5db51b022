use Rattle.std.proofs.Common.{rules}
use Rattle.da_port.proofs.Turned.{turn_records}
use Rattle.da_port.proofs.port.Port.enter.Goals as goal

pub returns-clause-ok : goal.returns-clause-ok
returns-clause-ok g c =
    turn_records c.enter-held.result.value c.record-reply.new.held.value c.args.moment c.args.input c.args.seat.now c.leave.new.seat _ _ c.record-reply.new.held.added c.args.self.now.fixed
    c.record-reply.result c.record-reply.ensures.steps (search rules) c.record-reply.ensures.legal c.enter-held.ensures.later
    c.leave.ensures.seen c.enter-held.ensures.seat.2 (search rules) c.record-reply.ensures.added c.leave.ensures.made
