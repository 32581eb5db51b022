use Rattle.std.proofs.Common.{subst, arith}
use Rattle.da_session.proofs.Sittings.{own_after, sits_after, sits_self, stays_after}
use Rattle.da_session.proofs.Writings.{Writing, writes_cut, writes_ended, writing_more, writing_none}
use Rattle.da_session.proofs.writer.write_conn.Goals as goal

pub loop-init : goal.loop-init
loop-init g c =
    record { seat = sits_self c.args.seat.now c.requires.own.1; run = writing_none c.args.port.now.fixed c.args.conn (g.K.Sink.state c.args.sink.now) c.args.seat.now }

pub take_lines-taken-requires : goal.take_lines-taken-requires
take_lines-taken-requires g c = record { own = own_after c.args.port.now c.args.seat.now c.loop.seat c.requires.own c.loop.invariant.seat }

pub returns-in-Err-clause-seat : goal.returns-in-Err-clause-seat
returns-in-Err-clause-seat g c = stays_after c.args.seat.now c.loop.seat c.take_lines-taken.new.seat c.loop.invariant.seat c.take_lines-taken.ensures.seat.0

pub returns-in-Err-clause-writes : goal.returns-in-Err-clause-writes
returns-in-Err-clause-writes g c = writes_cut c.loop.invariant.run c.take_lines-taken.new.seat c.take_lines-taken.ensures.seat.1 _ c.take_lines-taken.new.buf c.take_lines-taken.result c.take_lines-taken.ensures.taken (g.K.Sink.state c.write_all.new.sink) c.in-Err.ensures

pub returns-then-taken-clause-seat : goal.returns-then-taken-clause-seat
returns-then-taken-clause-seat g c = stays_after c.args.seat.now c.loop.seat c.take_lines-taken.new.seat c.loop.invariant.seat c.take_lines-taken.ensures.seat.0

pub returns-then-taken-clause-writes : goal.returns-then-taken-clause-writes
returns-then-taken-clause-writes g c = writes_ended c.loop.invariant.run c.take_lines-taken.new.seat c.take_lines-taken.ensures.seat.1 _ c.take_lines-taken.new.buf c.take_lines-taken.result c.take_lines-taken.ensures.taken (g.K.Sink.state c.write_all.new.sink) c.in-Ok.ensures c.if-taken.true

pub loop-preserved-then-taken-lt-CHUNK : goal.loop-preserved-then-taken-lt-CHUNK
loop-preserved-then-taken-lt-CHUNK g c =
    record {
      seat = sits_after c.args.seat.now c.loop.seat c.take_lines-taken.new.seat c.loop.invariant.seat c.take_lines-taken.ensures.seat.0;
      run =
          subst (Writing c.args.port.now.fixed c.args.conn (g.K.Sink.state c.args.sink.now) (g.K.Sink.state c.write_all.new.sink) c.args.seat.now c.take_lines-taken.new.seat)
          (omega (arith, c.in-Some-checked_add.ensures.1))
          (writing_more c.loop.invariant.run c.take_lines-taken.new.seat c.take_lines-taken.ensures.seat.1 _ c.take_lines-taken.new.buf c.take_lines-taken.result c.take_lines-taken.ensures.taken (g.K.Sink.state c.write_all.new.sink) c.in-Ok.ensures);
    }

pub loop-preserved : goal.loop-preserved
loop-preserved g c =
    record {
      seat = sits_after c.args.seat.now c.loop.seat c.take_lines-taken.new.seat c.loop.invariant.seat c.take_lines-taken.ensures.seat.0;
      run =
          subst (Writing c.args.port.now.fixed c.args.conn (g.K.Sink.state c.args.sink.now) (g.K.Sink.state c.write_all.new.sink) c.args.seat.now c.take_lines-taken.new.seat)
          (omega (arith, c.in-Some-checked_add.ensures.1))
          (writing_more c.loop.invariant.run c.take_lines-taken.new.seat c.take_lines-taken.ensures.seat.1 _ c.take_lines-taken.new.buf c.take_lines-taken.result c.take_lines-taken.ensures.taken (g.K.Sink.state c.write_all.new.sink) c.in-Ok.ensures);
    }
