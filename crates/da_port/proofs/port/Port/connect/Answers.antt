use Rattle.da_port.proofs.Answered.{connection_is_named}
use Rattle.da_port.proofs.port.Port.connect.Goals as goal

pub unreachable-requires : goal.unreachable-requires
unreachable-requires g c = connection_is_named c.args.self.now.fixed c.args.seat.now c.enter.new.seat c.args.moment c.args.kind c.args.random c.in_ok-out.out c.in_ok-out.ensures.ok c.in_default.is
