use Rattle.da_session.proofs.Sittings.{own_after, sits_after, sits_self, stays_after}
use Rattle.da_session.proofs.Dues.{dues_joined, dues_none}
use Rattle.da_session.proofs.Entering.{look_self}
use Rattle.da_session.proofs.ticks.serve_ticks.Goals as goal

pub loop-init : goal.loop-init
loop-init g c =
    record { seat = sits_self c.args.seat.now c.requires.own.1; run = dues_none c.args.port.now.fixed (g.C.Clock.may_tell c.args.clock.now) c.args.seat.now c.args.seat.now (look_self c.args.seat.now) }

pub record_due-made-requires : goal.record_due-made-requires
record_due-made-requires g c = record { own = own_after c.args.port.now c.args.seat.now c.loop.seat c.requires.own (c.loop.invariant.seat) }

pub end-requires : goal.end-requires
end-requires g c = record { own = own_after c.args.port.now c.args.seat.now c.record_due-made.new.seat c.requires.own (sits_after c.args.seat.now c.loop.seat c.record_due-made.new.seat c.loop.invariant.seat c.record_due-made.ensures.seat) }

pub returns-in-Some-end-clause-seat : goal.returns-in-Some-end-clause-seat
returns-in-Some-end-clause-seat g c = stays_after c.args.seat.now c.record_due-made.new.seat c.end.new.seat (sits_after c.args.seat.now c.loop.seat c.record_due-made.new.seat c.loop.invariant.seat c.record_due-made.ensures.seat) c.end.ensures.seat.0

pub returns-in-Some-end-clause-records : goal.returns-in-Some-end-clause-records
returns-in-Some-end-clause-records g c = dues_joined c.args.port.now.fixed (g.C.Clock.may_tell c.args.clock.now) c.args.seat.now c.record_due-made.new.seat c.end.new.seat (dues_joined c.args.port.now.fixed (g.C.Clock.may_tell c.args.clock.now) c.args.seat.now c.loop.seat c.record_due-made.new.seat c.loop.invariant.run c.record_due-made.ensures.records) (dues_none c.args.port.now.fixed (g.C.Clock.may_tell c.args.clock.now) c.record_due-made.new.seat c.end.new.seat c.end.ensures.seat.1)

pub returns-in-Some-end-clause-ends : goal.returns-in-Some-end-clause-ends
returns-in-Some-end-clause-ends g c = c.in-Some-end.ensures.end

pub loop-preserved-then-made : goal.loop-preserved-then-made
loop-preserved-then-made g c = record { seat = sits_after c.args.seat.now c.record_due-made.new.seat c.end.new.seat (sits_after c.args.seat.now c.loop.seat c.record_due-made.new.seat c.loop.invariant.seat c.record_due-made.ensures.seat) c.end.ensures.seat.0; run = dues_joined c.args.port.now.fixed (g.C.Clock.may_tell c.args.clock.now) c.args.seat.now c.record_due-made.new.seat c.end.new.seat (dues_joined c.args.port.now.fixed (g.C.Clock.may_tell c.args.clock.now) c.args.seat.now c.loop.seat c.record_due-made.new.seat c.loop.invariant.run c.record_due-made.ensures.records) (dues_none c.args.port.now.fixed (g.C.Clock.may_tell c.args.clock.now) c.record_due-made.new.seat c.end.new.seat c.end.ensures.seat.1) }

pub needs_clock-requires : goal.needs_clock-requires
needs_clock-requires g c = record { own = own_after c.args.port.now c.args.seat.now c.end.new.seat c.requires.own (sits_after c.args.seat.now c.record_due-made.new.seat c.end.new.seat (sits_after c.args.seat.now c.loop.seat c.record_due-made.new.seat c.loop.invariant.seat c.record_due-made.ensures.seat) c.end.ensures.seat.0) }

pub loop-preserved-then-needs_clock : goal.loop-preserved-then-needs_clock
loop-preserved-then-needs_clock g c = record { seat = sits_after c.args.seat.now c.end.new.seat c.needs_clock.new.seat (sits_after c.args.seat.now c.record_due-made.new.seat c.end.new.seat (sits_after c.args.seat.now c.loop.seat c.record_due-made.new.seat c.loop.invariant.seat c.record_due-made.ensures.seat) c.end.ensures.seat.0) c.needs_clock.ensures.seat.0; run = dues_joined c.args.port.now.fixed (g.C.Clock.may_tell c.args.clock.now) c.args.seat.now c.end.new.seat c.needs_clock.new.seat (dues_joined c.args.port.now.fixed (g.C.Clock.may_tell c.args.clock.now) c.args.seat.now c.record_due-made.new.seat c.end.new.seat (dues_joined c.args.port.now.fixed (g.C.Clock.may_tell c.args.clock.now) c.args.seat.now c.loop.seat c.record_due-made.new.seat c.loop.invariant.run c.record_due-made.ensures.records) (dues_none c.args.port.now.fixed (g.C.Clock.may_tell c.args.clock.now) c.record_due-made.new.seat c.end.new.seat c.end.ensures.seat.1)) (dues_none c.args.port.now.fixed (g.C.Clock.may_tell c.args.clock.now) c.end.new.seat c.needs_clock.new.seat c.needs_clock.ensures.seat.1) }

pub loop-preserved : goal.loop-preserved
loop-preserved g c = record { seat = sits_after c.args.seat.now c.end.new.seat c.needs_clock.new.seat (sits_after c.args.seat.now c.record_due-made.new.seat c.end.new.seat (sits_after c.args.seat.now c.loop.seat c.record_due-made.new.seat c.loop.invariant.seat c.record_due-made.ensures.seat) c.end.ensures.seat.0) c.needs_clock.ensures.seat.0; run = dues_joined c.args.port.now.fixed (g.C.Clock.may_tell c.args.clock.now) c.args.seat.now c.end.new.seat c.needs_clock.new.seat (dues_joined c.args.port.now.fixed (g.C.Clock.may_tell c.args.clock.now) c.args.seat.now c.record_due-made.new.seat c.end.new.seat (dues_joined c.args.port.now.fixed (g.C.Clock.may_tell c.args.clock.now) c.args.seat.now c.loop.seat c.record_due-made.new.seat c.loop.invariant.run c.record_due-made.ensures.records) (dues_none c.args.port.now.fixed (g.C.Clock.may_tell c.args.clock.now) c.record_due-made.new.seat c.end.new.seat c.end.ensures.seat.1)) (dues_none c.args.port.now.fixed (g.C.Clock.may_tell c.args.clock.now) c.end.new.seat c.needs_clock.new.seat c.needs_clock.ensures.seat.1) }
