use Rattle.std.proofs.Common.{inl, inr}
use Rattle.da_session.proofs.Sittings.{own_after, sits_of, stays_after}
use Rattle.da_session.proofs.Openness.{broken_closes}
use Rattle.da_session.proofs.Partings.{breaks_by_parting}
use Rattle.da_session.proofs.reader.break_off.Goals as goal

pub returns-in-Recorded-clause-breaks : goal.returns-in-Recorded-clause-breaks
returns-in-Recorded-clause-breaks g c = (
  inr c.in-Recorded.ensures.takes,
  broken_closes c.args.port.now.fixed (g.C.Clock.may_tell c.args.clock.now) c.args.conn c.args.seat.now c.record_broken.new.seat c.in-Recorded.ensures.takes,
)

pub returns-in-Closed-clause-breaks : goal.returns-in-Closed-clause-breaks
returns-in-Closed-clause-breaks g c = (inr c.in-Closed.ensures.takes.0, c.in-Closed.ensures.takes.1)

pub returns-in-NotOpen-clause-breaks : goal.returns-in-NotOpen-clause-breaks
returns-in-NotOpen-clause-breaks g c = (inl c.in-NotOpen.ensures.takes.0, c.in-NotOpen.ensures.takes.1)

pub part-requires : goal.part-requires
part-requires g c = record { own = own_after c.args.port.now c.args.seat.now c.record_broken.new.seat c.requires.own (sits_of c.args.seat.now c.record_broken.new.seat c.record_broken.ensures.seat) }

pub returns-in-NoMemory-clause-seat : goal.returns-in-NoMemory-clause-seat
returns-in-NoMemory-clause-seat g c =
    stays_after c.args.seat.now c.record_broken.new.seat c.part.new.seat (sits_of c.args.seat.now c.record_broken.new.seat c.record_broken.ensures.seat) c.part.ensures.seat

pub returns-in-NoMemory-clause-breaks : goal.returns-in-NoMemory-clause-breaks
returns-in-NoMemory-clause-breaks g c =
    rw c.answer.ensures
    (breaks_by_parting c.args.port.now.fixed (g.C.Clock.may_tell c.args.clock.now) c.args.conn c.args.seat.now c.record_broken.new.seat c.part.new.seat c.part.result
    c.in-NoMemory.ensures.takes c.part.ensures.parts)
