use Rattle.std.proofs.Common.{◌∙◌, ap, cond, true}
use Rattle.da_delay.specs.Delays.{has, is_same}
use Rattle.da_delay.proofs.delays.Delays.push.Goals as goal

pub returns-clause-added : goal.returns-clause-added
returns-clause-added c = λ q. c.in_ok-insert.ensures.updates.0 q ∙ ap (λ ks. cond (is_same (c.args.due, c.args.request) q) true (has ks q)) c.self.view_is
