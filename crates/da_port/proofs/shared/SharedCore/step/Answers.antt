use Rattle.da_port.proofs.Stepping.{legal_step}
use Rattle.da_port.proofs.shared.SharedCore.step.Goals as goal

pub invariant_of-self : goal.invariant_of-self
invariant_of-self c = legal_step c.self.inside.core c.step-reply.new.self c.args.moment c.args.input c.step-reply.result c.step-reply.ensures c.self.invariant

pub returns-clause-legal : goal.returns-clause-legal
returns-clause-legal c = legal_step c.self.inside.core c.step-reply.new.self c.args.moment c.args.input c.step-reply.result c.step-reply.ensures c.self.invariant
