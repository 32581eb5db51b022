use Rattle.da_userdb.proofs.step.visit.Goals as goal

pub returns-then-eq-clause-asks : goal.returns-then-eq-clause-asks
returns-then-eq-clause-asks c = c.of.ensures.asks _ _ _

pub returns-clause-asks : goal.returns-clause-asks
returns-clause-asks c = c.of-2.ensures.asks _ _ _
