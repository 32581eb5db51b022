use Rattle.std.proofs.Common.{sym, ap, ◌∙◌}
use Rattle.da_session.proofs.Sittings.{own_after, sits_of, stays_after}
use Rattle.da_core.specs.declared.clock.Due.{Due}
use Rattle.da_play.specs.declared.input.Input.TheVariants.{Late, Tick}
use Rattle.da_session.proofs.Dues.{due_made, dues_none}
use Rattle.da_session.proofs.ticks.record_due.Goals as goal

pub moment-requires : goal.moment-requires
moment-requires g c = record { own = own_after c.args.port.now c.args.seat.now c.due-due.new.seat c.requires.own (sits_of c.args.seat.now c.due-due.new.seat c.due-due.ensures.seat.0) }

pub late-requires : goal.late-requires
late-requires g c = record { own = own_after c.args.port.now c.args.seat.now c.due-due.new.seat c.requires.own (sits_of c.args.seat.now c.due-due.new.seat c.due-due.ensures.seat.0) }

pub returns-then-due-clause-seat : goal.returns-then-due-clause-seat
returns-then-due-clause-seat g c =
    stays_after c.args.seat.now c.due-due.new.seat c.moment.new.seat (sits_of c.args.seat.now c.due-due.new.seat c.due-due.ensures.seat.0) c.moment.ensures.seat

pub returns-then-due-clause-records : goal.returns-then-due-clause-records
returns-then-due-clause-records g c =
    due_made c.args.port.now.fixed (g.C.Clock.may_tell c.args.clock.now) c.args.seat.now c.due-due.new.seat c.moment.new.seat c.now-moment.result Tick c.moment.result
    c.due-due.ensures.seat.1 c.now-moment.ensures (sym (ap (λ (d : Due). d.reply) c.due-due.ensures.due) ∙ c.if-due.true) c.moment.ensures.ok c.moment.ensures.err

pub returns-in-Some-clause-seat : goal.returns-in-Some-clause-seat
returns-in-Some-clause-seat g c =
    stays_after c.args.seat.now c.due-due.new.seat c.late.new.seat (sits_of c.args.seat.now c.due-due.new.seat c.due-due.ensures.seat.0) c.late.ensures.seat

pub returns-in-Some-clause-records : goal.returns-in-Some-clause-records
returns-in-Some-clause-records g c =
    due_made c.args.port.now.fixed (g.C.Clock.may_tell c.args.clock.now) c.args.seat.now c.due-due.new.seat c.late.new.seat c.now-moment.result (Late c.in-Some.query) c.late.result
    c.due-due.ensures.seat.1 c.now-moment.ensures (sym (ap (λ (d : Due). d.query) c.due-due.ensures.due) ∙ c.in-Some.is) c.late.ensures.ok c.late.ensures.err

pub returns-in-None-clause-records : goal.returns-in-None-clause-records
returns-in-None-clause-records g c =
    dues_none c.args.port.now.fixed (g.C.Clock.may_tell c.args.clock.now) c.args.seat.now c.due-due.new.seat c.due-due.ensures.seat.1
