use Rattle.std.proofs.Common.{refl, sym, ◌∙◌}
use Rattle.da_app.proofs.ReplyLemmas.{entered_plays, refused_plays, ended_plays}
use Rattle.da_app.proofs.play.play_line.Goals as goal

pub returns-in-Ok : goal.returns-in-Ok
returns-in-Ok g c =
    entered_plays c.args.number c.args.line.now c.in-Ok-Some.event _ _ (sym c.in-Ok-Some.ensures ∙ c.in-Ok-Some.field-0-is) c.write_reply.result c.in-Ok.outputs
    c.in-Ok.ensures (c.write_reply.ensures _ c.print_outputs.ensures)

pub returns-in-None : goal.returns-in-None
returns-in-None g c =
    refused_plays c.args.number c.args.line.now c.in-Ok-Some.event _ _ (sym c.in-Ok-Some.ensures ∙ c.in-Ok-Some.field-0-is) c.write_reply-in-None.result
    c.in-Err-step.refused (sym c.ending.ensures ∙ c.in-None.is) c.in-Err-step.ensures (c.write_reply-in-None.ensures _ c.print_refused.ensures)

pub returns-in-Some : goal.returns-in-Some
returns-in-Some g c =
    ended_plays c.args.number c.args.line.now c.in-Ok-Some.event _ _ (sym c.in-Ok-Some.ensures ∙ c.in-Ok-Some.field-0-is) c.in-Some.stop c.in-Err-step.refused
    (sym c.ending.ensures ∙ c.in-Some.is) c.in-Err-step.ensures refl
