use Rattle.da_workers.proofs.LeftOut.{gives_answer}
use Rattle.da_workers.proofs.worker.record_answer.Goals as goal

pub returns : goal.returns
returns g c = record {
  seat = c.answer.ensures.seat;
  gives =
      gives_answer c.args.port.now.fixed (g.C.Clock.may_tell c.args.clock.now) c.args.seat.now c.answer.new.seat c.args.number c.args.answer
      c.now.result c.now.ensures c.answer.result c.answer.ensures.ok c.answer.ensures.err;
}
