use Rattle.da_session.proofs.Sittings.{own_after, sits_after, sits_self}
use Rattle.da_session.proofs.Recordings.{left_none, recording_more, recording_none, stops_closed, stops_full, stops_none, stops_not_open, stops_unmade}
use Rattle.da_session.proofs.lines.record_lines.Goals as goal

pub loop-line-init : goal.loop-line-init
loop-line-init g c =
    record {
      seat = sits_self c.args.seat.now c.requires.own.1;
      run = recording_none c.args.port.now.fixed (g.C.Clock.may_tell c.args.clock.now) (g.G.Rand.draws c.args.rand.now) c.args.conn c.args.seat.now c.args.lines.now;
    }

pub record_line-requires : goal.record_line-requires
record_line-requires g c = record { own = own_after c.args.port.now c.args.seat.now c.loop-line.seat c.requires.own c.loop-line.invariant.seat }

pub loop-line-preserved : goal.loop-line-preserved
loop-line-preserved g c =
    record {
      seat = sits_after c.args.seat.now c.loop-line.seat c.record_line.new.seat c.loop-line.invariant.seat c.record_line.ensures.seat;
      run = recording_more c.loop-line.invariant.run (g.G.Rand.draws c.bytes.new.self) c.bytes.result c.bytes.ensures c.record_line.new.seat c.next.new.self c.in-Some.line.items c.in-Some.ensures.line c.in-Some.ensures.after c.in-Recorded.ensures.takes;
    }

pub returns-in-Closed-clause-seat : goal.returns-in-Closed-clause-seat
returns-in-Closed-clause-seat g c = sits_after c.args.seat.now c.loop-line.seat c.record_line.new.seat c.loop-line.invariant.seat c.record_line.ensures.seat

pub returns-in-Closed-clause-stops : goal.returns-in-Closed-clause-stops
returns-in-Closed-clause-stops g c = stops_closed c.loop-line.invariant.run (g.G.Rand.draws c.bytes.new.self) c.bytes.result c.bytes.ensures c.record_line.new.seat c.next.new.self c.in-Some.line.items c.in-Some.ensures.line c.record_line.ensures.seat.4 c.in-Closed.ensures.takes

pub returns-in-NotOpen-clause-seat : goal.returns-in-NotOpen-clause-seat
returns-in-NotOpen-clause-seat g c = sits_after c.args.seat.now c.loop-line.seat c.record_line.new.seat c.loop-line.invariant.seat c.record_line.ensures.seat

pub returns-in-NotOpen-clause-stops : goal.returns-in-NotOpen-clause-stops
returns-in-NotOpen-clause-stops g c = stops_not_open c.loop-line.invariant.run (g.G.Rand.draws c.bytes.new.self) c.bytes.result c.bytes.ensures c.record_line.new.seat c.next.new.self c.in-Some.line.items c.in-Some.ensures.line c.record_line.ensures.seat.4 c.in-NotOpen.ensures.takes

pub returns-in-Full-clause-seat : goal.returns-in-Full-clause-seat
returns-in-Full-clause-seat g c = sits_after c.args.seat.now c.loop-line.seat c.record_line.new.seat c.loop-line.invariant.seat c.record_line.ensures.seat

pub returns-in-Full-clause-stops : goal.returns-in-Full-clause-stops
returns-in-Full-clause-stops g c = stops_full c.loop-line.invariant.run (g.G.Rand.draws c.bytes.new.self) c.bytes.result c.bytes.ensures c.record_line.new.seat c.next.new.self c.in-Some.line.items c.in-Some.ensures.line c.record_line.ensures.seat.4 c.in-Full.ensures.takes

pub returns-in-NoMemory-clause-seat : goal.returns-in-NoMemory-clause-seat
returns-in-NoMemory-clause-seat g c = sits_after c.args.seat.now c.loop-line.seat c.record_line.new.seat c.loop-line.invariant.seat c.record_line.ensures.seat

pub returns-in-NoMemory-clause-stops : goal.returns-in-NoMemory-clause-stops
returns-in-NoMemory-clause-stops g c = stops_unmade c.loop-line.invariant.run (g.G.Rand.draws c.bytes.new.self) c.bytes.result c.bytes.ensures c.record_line.new.seat c.next.new.self c.in-Some.line.items c.in-Some.ensures.line c.in-NoMemory.ensures.takes

pub returns-clause-seat : goal.returns-clause-seat
returns-clause-seat g c = c.loop-line.invariant.seat

pub returns-clause-stops : goal.returns-clause-stops
returns-clause-stops g c = stops_none c.loop-line.invariant.run c.next.new.self c.in_default.ensures.line c.in_default.ensures.after

pub returns-clause-taken : goal.returns-clause-taken
returns-clause-taken g c = left_none c.loop-line.invariant.run c.next.new.self c.in_default.ensures.line c.in_default.ensures.after
