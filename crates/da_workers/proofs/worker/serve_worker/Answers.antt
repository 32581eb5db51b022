use Rattle.std.proofs.Common.{refl, suc, None, option_map}
use Rattle.da_workers.proofs.Deaths.{deaths_are_few, works_soundly}
use Rattle.da_workers.proofs.Serving.{Rests-refl, one_more, then_rests}
use Rattle.da_workers.proofs.Sitting.{Sits-refl, Sits-trans, of_after, sits_stays, stays_sits}
use Rattle.da_workers.specs.Working.{Serves, standing}
use Rattle.da_workers.proofs.worker.serve_worker.Goals as goal

pub loop-init : goal.loop-init
loop-init g c = (
  c.requires.own,
  Sits-refl c.args.seat.now c.requires.own.1,
  (0, Rests-refl (standing c.args.seat.now (g.P.Spawner.state c.args.spawner.now) None (g.U.Runner.state c.args.runner.now))),
)

pub next_query-requires : goal.next_query-requires
next_query-requires g c = record { own = c.loop.invariant.0 }

pub answer_query-link-requires-clause-own : goal.answer_query-link-requires-clause-own
answer_query-link-requires-clause-own g c = (
  of_after c.args.port.now c.loop.seat c.next_query.new.seat c.loop.invariant.0.0 (stays_sits c.loop.seat c.next_query.new.seat c.next_query.ensures.seat),
  c.next_query.ensures.seat.1,
)

pub loop-preserved-in-Query : goal.loop-preserved-in-Query
loop-preserved-in-Query g c =
    let sits = Sits-trans c.args.seat.now c.next_query.new.seat c.answer_query-link.new.seat
    (Sits-trans c.args.seat.now c.loop.seat c.next_query.new.seat c.loop.invariant.1 (stays_sits c.loop.seat c.next_query.new.seat c.next_query.ensures.seat))
    c.answer_query-link.ensures.seat in (
      (of_after c.args.port.now c.args.seat.now c.answer_query-link.new.seat c.requires.own.0 sits, sits.1),
      sits,
      (
        suc c.loop.invariant.2.0,
        one_more (Serves c.args.port.now.fixed (g.C.Clock.may_tell c.args.clock.now)) c.loop.invariant.2.0
            (standing c.args.seat.now (g.P.Spawner.state c.args.spawner.now) None (g.U.Runner.state c.args.runner.now))
            (standing c.loop.seat (g.P.Spawner.state c.loop.spawner) (option_map g.P.Link.Link.state c.loop.link) (g.U.Runner.state c.loop.runner))
            (standing c.answer_query-link.new.seat (g.P.Spawner.state c.answer_query-link.new.spawner) (option_map g.P.Link.Link.state c.answer_query-link.result) (g.U.Runner.state c.answer_query-link.new.runner))
            c.loop.invariant.2.1
            (record { query = c.in-Query.query; taken = c.next_query.new.seat; takes = c.in-Query.ensures.next; answers = c.answer_query-link.ensures.answers }),
      ),
    )

pub loop-preserved-in-Query-2 : goal.loop-preserved-in-Query-2
loop-preserved-in-Query-2 g c =
    let sits = Sits-trans c.args.seat.now c.next_query.new.seat c.answer_query-link.new.seat
    (Sits-trans c.args.seat.now c.loop.seat c.next_query.new.seat c.loop.invariant.1 (stays_sits c.loop.seat c.next_query.new.seat c.next_query.ensures.seat))
    c.answer_query-link.ensures.seat in (
      (of_after c.args.port.now c.args.seat.now c.answer_query-link.new.seat c.requires.own.0 sits, sits.1),
      sits,
      (
        suc c.loop.invariant.2.0,
        one_more (Serves c.args.port.now.fixed (g.C.Clock.may_tell c.args.clock.now)) c.loop.invariant.2.0
            (standing c.args.seat.now (g.P.Spawner.state c.args.spawner.now) None (g.U.Runner.state c.args.runner.now))
            (standing c.loop.seat (g.P.Spawner.state c.loop.spawner) (option_map g.P.Link.Link.state c.loop.link) (g.U.Runner.state c.loop.runner))
            (standing c.answer_query-link.new.seat (g.P.Spawner.state c.answer_query-link.new.spawner) (option_map g.P.Link.Link.state c.answer_query-link.result) (g.U.Runner.state c.answer_query-link.new.runner))
            c.loop.invariant.2.1
            (record { query = c.in-Query.query; taken = c.next_query.new.seat; takes = c.in-Query.ensures.next; answers = c.answer_query-link.ensures.answers }),
      ),
    )

pub loop-preserved : goal.loop-preserved
loop-preserved g c =
    let sits = Sits-trans c.args.seat.now c.loop.seat c.next_query.new.seat c.loop.invariant.1 (stays_sits c.loop.seat c.next_query.new.seat c.next_query.ensures.seat) in (
      (of_after c.args.port.now c.args.seat.now c.next_query.new.seat c.requires.own.0 sits, sits.1),
      sits,
      (
        c.loop.invariant.2.0,
        then_rests (Serves c.args.port.now.fixed (g.C.Clock.may_tell c.args.clock.now)) c.loop.invariant.2.0
            (standing c.args.seat.now (g.P.Spawner.state c.args.spawner.now) None (g.U.Runner.state c.args.runner.now))
            (standing c.loop.seat (g.P.Spawner.state c.loop.spawner) (option_map g.P.Link.Link.state c.loop.link) (g.U.Runner.state c.loop.runner))
            (standing c.next_query.new.seat (g.P.Spawner.state c.loop.spawner) (option_map g.P.Link.Link.state c.loop.link) (g.U.Runner.state c.loop.runner))
            c.loop.invariant.2.1 (c.in-Nothing.ensures.next, refl),
      ),
    )

pub returns-in-End-clause-seat : goal.returns-in-End-clause-seat
returns-in-End-clause-seat g c = sits_stays c.args.seat.now c.loop.seat c.next_query.new.seat c.loop.invariant.1 c.next_query.ensures.seat

pub returns-in-End-clause-works : goal.returns-in-End-clause-works
returns-in-End-clause-works g c =
    record {
      count = c.loop.invariant.2.0;
      last = standing c.next_query.new.seat (g.P.Spawner.state c.loop.spawner) (option_map g.P.Link.Link.state c.loop.link) (g.U.Runner.state c.loop.runner);
      rounds =
          then_rests (Serves c.args.port.now.fixed (g.C.Clock.may_tell c.args.clock.now)) c.loop.invariant.2.0
          (standing c.args.seat.now (g.P.Spawner.state c.args.spawner.now) None (g.U.Runner.state c.args.runner.now))
          (standing c.loop.seat (g.P.Spawner.state c.loop.spawner) (option_map g.P.Link.Link.state c.loop.link) (g.U.Runner.state c.loop.runner))
          (standing c.next_query.new.seat (g.P.Spawner.state c.loop.spawner) (option_map g.P.Link.Link.state c.loop.link) (g.U.Runner.state c.loop.runner))
          c.loop.invariant.2.1 (c.in-End.ensures.next.0, refl);
      seat = refl;
      hands_in = c.hand_in.ensures;
      none = refl;
      runner = refl;
    }

pub returns-in-End-clause-deaths : goal.returns-in-End-clause-deaths
returns-in-End-clause-deaths g c =
    deaths_are_few c.args.port.now.fixed (g.C.Clock.may_tell c.args.clock.now)
    (standing c.args.seat.now (g.P.Spawner.state c.args.spawner.now) None (g.U.Runner.state c.args.runner.now))
    (standing c.next_query.new.seat (g.P.Spawner.state c.hand_in.new.spawner) None (g.U.Runner.state c.loop.runner))
    (returns-in-End-clause-works g c)

pub returns-in-End-clause-sound : goal.returns-in-End-clause-sound
returns-in-End-clause-sound g c =
    works_soundly c.args.port.now.fixed (g.C.Clock.may_tell c.args.clock.now)
    (standing c.args.seat.now (g.P.Spawner.state c.args.spawner.now) None (g.U.Runner.state c.args.runner.now))
    (standing c.next_query.new.seat (g.P.Spawner.state c.hand_in.new.spawner) None (g.U.Runner.state c.loop.runner))
    (returns-in-End-clause-works g c)
