use Rattle.std.proofs.Common.{◌∙◌}
use Rattle.da_outbox.specs.Outboxes.{outbox}
use Rattle.da_outbox.proofs.outboxes.Outboxes.push_lines.Goals as goal

pub returns-in-Err-clause-err : goal.returns-in-Err-clause-err
returns-in-Err-clause-err c = c.take_back.ensures (outbox c.args.self.now) (λ k. c.in-Err.ensures.err k ∙ c.loop-index.invariant.so_far k)
