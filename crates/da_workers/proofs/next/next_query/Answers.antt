use Rattle.da_workers.proofs.LeftOut.{refused_take}
use Rattle.da_workers.proofs.Serving.{Looks-trans}
use Rattle.da_workers.proofs.next.next_query.Goals as goal

pub returns-in-Ok-Some-clause-next : goal.returns-in-Ok-Some-clause-next
returns-in-Ok-Some-clause-next g c = record { moment = c.now.result; told = c.now.ensures; takes = rw c.in-Ok-Some.field-0-is at c.in-Ok-Some.ensures.taken }

pub returns-in-Some-clause-next : goal.returns-in-Some-clause-next
returns-in-Some-clause-next g c =
    let took = rw c.in-Ok-None.field-0-is at c.in-Ok-None.ensures.taken in
    (Looks-trans c.args.seat.now c.take_query.new.seat c.end.new.seat took.0 c.end.ensures.seat.1, c.in-Some.ensures.end)

pub returns-in-None-clause-next : goal.returns-in-None-clause-next
returns-in-None-clause-next g c =
    let took = rw c.in-Ok-None.field-0-is at c.in-Ok-None.ensures.taken in
    Looks-trans c.args.seat.now c.take_query.new.seat c.end.new.seat took.0 c.end.ensures.seat.1

pub returns-in-Some-end-clause-next : goal.returns-in-Some-end-clause-next
returns-in-Some-end-clause-next g c =
    let looked = refused_take c.args.port.now.fixed c.args.seat.now c.take_query.new.seat c.now.result c.in-Err.field-0 c.in-Err.ensures.taken in
    (Looks-trans c.args.seat.now c.take_query.new.seat c.end-in-Err.new.seat looked c.end-in-Err.ensures.seat.1, c.in-Some-end.ensures.end)

pub returns-in-None-end-clause-next : goal.returns-in-None-end-clause-next
returns-in-None-end-clause-next g c =
    let looked = refused_take c.args.port.now.fixed c.args.seat.now c.take_query.new.seat c.now.result c.in-Err.field-0 c.in-Err.ensures.taken in
    Looks-trans c.args.seat.now c.take_query.new.seat c.end-in-Err.new.seat looked c.end-in-Err.ensures.seat.1
