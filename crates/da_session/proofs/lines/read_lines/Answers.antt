use Rattle.da_session.proofs.Sittings.{own_after, sits_on, sits_self}
use Rattle.da_session.proofs.Readings.{going, reading_more, reading_none, stops_at, stops_end, stops_fault, stops_long, stops_unfed}
use Rattle.da_session.proofs.lines.read_lines.Goals as goal

pub loop-init : goal.loop-init
loop-init g c =
    record {
      seat = sits_self c.args.seat.now c.requires.own.1;
      run = reading_none c.args.port.now.fixed (g.C.Clock.may_tell c.args.clock.now) (g.G.Rand.draws c.args.rand.now) c.args.conn (g.S.Source.state c.args.source.now) c.args.seat.now c.new-lines.result c.new-lines.ensures;
    }

pub read_into-requires : goal.read_into-requires
read_into-requires g c = going c.loop.invariant.run

pub returns-in-End-clause-stops : goal.returns-in-End-clause-stops
returns-in-End-clause-stops g c = stops_end c.loop.invariant.run (g.S.Source.state c.read_into.new.source) c.in-End.ensures.0

pub returns-in-Cut-clause-stops : goal.returns-in-Cut-clause-stops
returns-in-Cut-clause-stops g c = stops_end c.loop.invariant.run (g.S.Source.state c.read_into.new.source) c.in-Cut.ensures.0

pub returns-in-ReadFault-clause-stops : goal.returns-in-ReadFault-clause-stops
returns-in-ReadFault-clause-stops g c = stops_fault c.loop.invariant.run (g.S.Source.state c.read_into.new.source) c.in-ReadFault.ensures

pub returns-in-NoMemory-clause-stops : goal.returns-in-NoMemory-clause-stops
returns-in-NoMemory-clause-stops g c = stops_unfed c.loop.invariant.run (g.S.Source.state c.read_into.new.source) _ c.in-NoMemory.ensures

pub record_lines-stop-requires : goal.record_lines-stop-requires
record_lines-stop-requires g c = record { own = own_after c.args.port.now c.args.seat.now c.loop.seat c.requires.own c.loop.invariant.seat }

pub returns-in-Some-stop-clause-seat : goal.returns-in-Some-stop-clause-seat
returns-in-Some-stop-clause-seat g c = sits_on c.args.seat.now c.loop.seat c.record_lines-stop.new.seat c.loop.invariant.seat c.record_lines-stop.ensures.seat

pub returns-in-Some-stop-clause-stops : goal.returns-in-Some-stop-clause-stops
returns-in-Some-stop-clause-stops g c = stops_at c.loop.invariant.run (g.S.Source.state c.read_into.new.source) c.read_into.new.lines _ _ _ c.in-Fed.ensures (g.G.Rand.draws c.record_lines-stop.new.rand) c.record_lines-stop.new.seat c.in-Some-stop.stop c.in-Some-stop.ensures.stops

pub returns-then-is_long-clause-seat : goal.returns-then-is_long-clause-seat
returns-then-is_long-clause-seat g c = sits_on c.args.seat.now c.loop.seat c.record_lines-stop.new.seat c.loop.invariant.seat c.record_lines-stop.ensures.seat

pub returns-then-is_long-clause-stops : goal.returns-then-is_long-clause-stops
returns-then-is_long-clause-stops g c = stops_long c.loop.invariant.run (g.S.Source.state c.read_into.new.source) c.read_into.new.lines _ _ _ c.in-Fed.ensures (g.G.Rand.draws c.record_lines-stop.new.rand) c.record_lines-stop.new.seat c.if-is_long.true c.in_default.ensures.stops

pub loop-preserved : goal.loop-preserved
loop-preserved g c =
    record {
      seat = sits_on c.args.seat.now c.loop.seat c.record_lines-stop.new.seat c.loop.invariant.seat c.record_lines-stop.ensures.seat;
      run = reading_more c.loop.invariant.run (g.S.Source.state c.read_into.new.source) c.read_into.new.lines _ _ _ c.in-Fed.ensures (g.G.Rand.draws c.record_lines-stop.new.rand) c.record_lines-stop.new.seat c.if-is_long.false c.in_default.ensures.stops c.record_lines-stop.new.lines c.in_default.ensures.taken;
    }
