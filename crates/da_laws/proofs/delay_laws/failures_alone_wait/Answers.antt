use Rattle.da_laws.proofs.DelayLaw.{failures_wait, none_waits_longer, others_are_told_at_once}
use Rattle.da_laws.proofs.delay_laws.failures_alone_wait.Goals as goal

pub returns-clause-failures : goal.returns-clause-failures
returns-clause-failures c = failures_wait

pub returns-clause-no_longer : goal.returns-clause-no_longer
returns-clause-no_longer c = none_waits_longer

pub returns-clause-others : goal.returns-clause-others
returns-clause-others c = others_are_told_at_once
