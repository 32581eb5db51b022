use Rattle.da_delay.proofs.FirstDue.{first_is_due, first_is_later}
use Rattle.da_delay.proofs.delays.Delays.first_due.Goals as goal

pub returns-in-Some-clause-exact : goal.returns-in-Some-clause-exact
returns-in-Some-clause-exact c = rw c.self.view_is at (first_is_due c.args.moment _ _ c.in-Some.ensures.first c.if-first-moment.true)

pub returns-in_default-clause-exact : goal.returns-in_default-clause-exact
returns-in_default-clause-exact c = rw c.self.view_is at (first_is_later c.args.moment _ _ c.self.invariant c.in-Some.ensures.first c.if-first-moment.false)
