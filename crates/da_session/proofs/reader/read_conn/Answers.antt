use Rattle.std.proofs.Common.{inl}
use Rattle.da_session.proofs.Sittings.{own_after, stays_after, stays_of}
use Rattle.da_session.proofs.Partings.{reads_broken, reads_cut, reads_ended, reads_unmade}
use Rattle.da_session.proofs.reader.read_conn.Goals as goal

pub part-requires : goal.part-requires
part-requires g c = record { own = own_after c.args.port.now c.args.seat.now c.read_lines.new.seat c.requires.own c.read_lines.ensures.seat }

pub break_off-requires : goal.break_off-requires
break_off-requires g c = record { own = own_after c.args.port.now c.args.seat.now c.read_lines.new.seat c.requires.own c.read_lines.ensures.seat }

pub part-requires-in-End : goal.part-requires-in-End
part-requires-in-End g c = record { own = own_after c.args.port.now c.args.seat.now c.read_lines.new.seat c.requires.own c.read_lines.ensures.seat }

pub part-requires-in-Fault : goal.part-requires-in-Fault
part-requires-in-Fault g c = record { own = own_after c.args.port.now c.args.seat.now c.read_lines.new.seat c.requires.own c.read_lines.ensures.seat }

pub returns-in-Closed-clause-seat : goal.returns-in-Closed-clause-seat
returns-in-Closed-clause-seat g c = stays_of c.args.seat.now c.read_lines.new.seat c.read_lines.ensures.seat c.in-Closed.ensures.stops.2

pub returns-in-Closed-clause-reads : goal.returns-in-Closed-clause-reads
returns-in-Closed-clause-reads g c = (inl c.in-Closed.ensures.stops.0, c.in-Closed.ensures.stops.1)

pub returns-in-Full-clause-seat : goal.returns-in-Full-clause-seat
returns-in-Full-clause-seat g c = stays_of c.args.seat.now c.read_lines.new.seat c.read_lines.ensures.seat c.in-Full.ensures.stops.2

pub returns-in-Full-clause-reads : goal.returns-in-Full-clause-reads
returns-in-Full-clause-reads g c = (c.in-Full.ensures.stops.0, c.in-Full.ensures.stops.1)

pub returns-in-TooLong-clause-seat : goal.returns-in-TooLong-clause-seat
returns-in-TooLong-clause-seat g c = stays_after c.args.seat.now c.read_lines.new.seat c.break_off.new.seat c.read_lines.ensures.seat c.break_off.ensures.seat

pub returns-in-TooLong-clause-reads : goal.returns-in-TooLong-clause-reads
returns-in-TooLong-clause-reads g c =
    reads_broken c.args.port.now.fixed (g.C.Clock.may_tell c.args.clock.now) (g.G.Rand.draws c.args.rand.now) c.args.conn (g.S.Source.state c.args.source.now) (g.S.Source.state c.read_lines.new.source) c.args.seat.now c.read_lines.new.seat c.break_off.new.seat c.break_off.result
    c.in-TooLong.ensures.stops c.break_off.ensures.breaks

pub returns-in-NoMemory-clause-seat : goal.returns-in-NoMemory-clause-seat
returns-in-NoMemory-clause-seat g c = stays_after c.args.seat.now c.read_lines.new.seat c.part.new.seat c.read_lines.ensures.seat c.part.ensures.seat

pub returns-in-NoMemory-clause-reads : goal.returns-in-NoMemory-clause-reads
returns-in-NoMemory-clause-reads g c =
    rw c.answer.ensures
    (reads_unmade c.args.port.now.fixed (g.C.Clock.may_tell c.args.clock.now) (g.G.Rand.draws c.args.rand.now) c.args.conn (g.S.Source.state c.args.source.now) (g.S.Source.state c.read_lines.new.source) c.args.seat.now c.read_lines.new.seat c.part.new.seat c.part.result
    c.in-NoMemory.ensures.stops c.part.ensures.parts)

pub returns-in-End-clause-seat : goal.returns-in-End-clause-seat
returns-in-End-clause-seat g c = stays_after c.args.seat.now c.read_lines.new.seat c.part-in-End.new.seat c.read_lines.ensures.seat c.part-in-End.ensures.seat

pub returns-in-End-clause-reads : goal.returns-in-End-clause-reads
returns-in-End-clause-reads g c =
    rw c.answer-in-End.ensures
    (reads_ended c.args.port.now.fixed (g.C.Clock.may_tell c.args.clock.now) (g.G.Rand.draws c.args.rand.now) c.args.conn (g.S.Source.state c.args.source.now) (g.S.Source.state c.read_lines.new.source) c.args.seat.now c.read_lines.new.seat c.part-in-End.new.seat c.part-in-End.result
    c.in-End.ensures.stops c.part-in-End.ensures.parts)

pub returns-in-Fault-clause-seat : goal.returns-in-Fault-clause-seat
returns-in-Fault-clause-seat g c = stays_after c.args.seat.now c.read_lines.new.seat c.part-in-Fault.new.seat c.read_lines.ensures.seat c.part-in-Fault.ensures.seat

pub returns-in-Fault-clause-reads : goal.returns-in-Fault-clause-reads
returns-in-Fault-clause-reads g c =
    rw c.answer-in-Fault.ensures
    (reads_cut c.args.port.now.fixed (g.C.Clock.may_tell c.args.clock.now) (g.G.Rand.draws c.args.rand.now) c.args.conn (g.S.Source.state c.args.source.now) (g.S.Source.state c.read_lines.new.source) c.args.seat.now c.read_lines.new.seat c.part-in-Fault.new.seat c.part-in-Fault.result
    c.in-Fault.ensures.stops c.part-in-Fault.ensures.parts)
