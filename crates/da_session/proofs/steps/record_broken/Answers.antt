use Rattle.std.proofs.Common.{refl}
use Rattle.da_play.specs.declared.input.Input.TheVariants.{Broken}
use Rattle.da_session.proofs.Openness.{refused_takes}
use Rattle.da_session.proofs.steps.record_broken.Goals as goal

pub returns-in-Ok-clause-takes : goal.returns-in-Ok-clause-takes
returns-in-Ok-clause-takes g c =
    record { moment = c.now.result; told = c.now.ensures; out = c.in-Ok.ensures.ok.0; records = c.in-Ok.ensures.ok.1 }

pub returns-in-Err-clause-takes : goal.returns-in-Err-clause-takes
returns-in-Err-clause-takes g c =
    rw c.after.ensures
    (refused_takes c.args.port.now.fixed (g.C.Clock.may_tell c.args.clock.now) c.args.conn c.args.seat.now c.broken.new.seat c.now.result (Broken c.args.conn) refl
    c.in-Err.refused c.in-Err.ensures.err)
