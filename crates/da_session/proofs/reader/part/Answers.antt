use Rattle.da_session.proofs.Sittings.{own_after, sits_after, sits_self, stays_after}
use Rattle.da_session.proofs.Entering.{look_on, look_self}
use Rattle.da_session.proofs.Partings.{parts_after_look}
use Rattle.da_session.specs.declared.reader.Parting.TheVariants.{Full, NotOpen, Recorded}
use Rattle.da_session.proofs.reader.part.Goals as goal

pub loop-init : goal.loop-init
loop-init g c = record { seat = sits_self c.args.seat.now c.requires.own.1; look = look_self c.args.seat.now }

pub record_gone-requires : goal.record_gone-requires
record_gone-requires g c = record { own = own_after c.args.port.now c.args.seat.now c.loop.seat c.requires.own c.loop.invariant.seat }

pub returns-in-Recorded-clause-seat : goal.returns-in-Recorded-clause-seat
returns-in-Recorded-clause-seat g c = stays_after c.args.seat.now c.loop.seat c.record_gone.new.seat c.loop.invariant.seat c.record_gone.ensures.seat

pub returns-in-Recorded-clause-parts : goal.returns-in-Recorded-clause-parts
returns-in-Recorded-clause-parts g c =
    parts_after_look c.args.port.now.fixed (g.C.Clock.may_tell c.args.clock.now) c.args.conn c.args.seat.now c.loop.seat c.record_gone.new.seat Recorded
    c.loop.invariant.look c.in-Recorded.ensures.takes

pub returns-in-Closed-clause-seat : goal.returns-in-Closed-clause-seat
returns-in-Closed-clause-seat g c = stays_after c.args.seat.now c.loop.seat c.record_gone.new.seat c.loop.invariant.seat c.record_gone.ensures.seat

pub returns-in-Closed-clause-parts : goal.returns-in-Closed-clause-parts
returns-in-Closed-clause-parts g c =
    parts_after_look c.args.port.now.fixed (g.C.Clock.may_tell c.args.clock.now) c.args.conn c.args.seat.now c.loop.seat c.record_gone.new.seat Recorded
    c.loop.invariant.look c.in-Closed.ensures.takes.0

pub returns-in-NotOpen-clause-seat : goal.returns-in-NotOpen-clause-seat
returns-in-NotOpen-clause-seat g c = stays_after c.args.seat.now c.loop.seat c.record_gone.new.seat c.loop.invariant.seat c.record_gone.ensures.seat

pub returns-in-NotOpen-clause-parts : goal.returns-in-NotOpen-clause-parts
returns-in-NotOpen-clause-parts g c =
    parts_after_look c.args.port.now.fixed (g.C.Clock.may_tell c.args.clock.now) c.args.conn c.args.seat.now c.loop.seat c.record_gone.new.seat NotOpen
    c.loop.invariant.look c.in-NotOpen.ensures.takes

pub returns-in-Full-clause-seat : goal.returns-in-Full-clause-seat
returns-in-Full-clause-seat g c = stays_after c.args.seat.now c.loop.seat c.record_gone.new.seat c.loop.invariant.seat c.record_gone.ensures.seat

pub returns-in-Full-clause-parts : goal.returns-in-Full-clause-parts
returns-in-Full-clause-parts g c =
    parts_after_look c.args.port.now.fixed (g.C.Clock.may_tell c.args.clock.now) c.args.conn c.args.seat.now c.loop.seat c.record_gone.new.seat Full
    c.loop.invariant.look c.in-Full.ensures.takes

pub loop-preserved : goal.loop-preserved
loop-preserved g c =
    record {
      seat = sits_after c.args.seat.now c.loop.seat c.record_gone.new.seat c.loop.invariant.seat c.record_gone.ensures.seat;
      look = look_on c.args.seat.now c.loop.seat c.record_gone.new.seat c.loop.invariant.look c.in-NoMemory.ensures.takes;
    }
