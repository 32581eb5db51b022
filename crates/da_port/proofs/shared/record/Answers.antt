use Rattle.da_port.proofs.Turned.{entry_added}
use Rattle.da_port.proofs.shared.record.Goals as goal

pub returns-clause-grows : goal.returns-clause-grows
returns-clause-grows c = (_, entry_added c.args.held.now.value c.step.new.self c.args.moment c.args.input c.in_ok-out.out c.in_ok-out.ensures.steps, c.step.ensures.few)
