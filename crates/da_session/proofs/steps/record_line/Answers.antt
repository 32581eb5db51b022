use Rattle.std.proofs.Common.{sym, ◌∙◌, refl}
use Rattle.da_play.specs.declared.input.Input.TheVariants.{Line}
use Rattle.da_session.proofs.Openness.{refused_takes}
use Rattle.da_session.proofs.steps.record_line.Goals as goal

pub returns-in-Ok-true-clause-takes : goal.returns-in-Ok-true-clause-takes
returns-in-Ok-true-clause-takes g c =
    rw (sym c.new.ensures)
    (record { moment = c.now.result; told = c.now.ensures; out = c.in-Ok-true.ensures.ok.0; records = c.in-Ok-true.ensures.ok.1 })

pub returns-in-Ok-false-clause-takes : goal.returns-in-Ok-false-clause-takes
returns-in-Ok-false-clause-takes g c =
    rw (sym c.new.ensures) (
      record { moment = c.now.result; told = c.now.ensures; out = c.in-Ok-false.ensures.ok.0; records = c.in-Ok-false.ensures.ok.1 },
      sym c.in-Ok-false.ensures.open ∙ c.in-Ok-false.field-0-test,
    )

pub returns-in-Err-clause-takes : goal.returns-in-Err-clause-takes
returns-in-Err-clause-takes g c =
    rw (c.after.ensures, sym c.new.ensures)
    (refused_takes c.args.port.now.fixed (g.C.Clock.may_tell c.args.clock.now) c.args.conn c.args.seat.now c.line_quietly.new.seat c.now.result (Line c.args.conn c.new.result c.args.random) refl
    c.in-Err.refused c.in-Err.ensures.err)
