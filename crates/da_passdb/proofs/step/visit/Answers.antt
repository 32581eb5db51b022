use Rattle.da_passdb.proofs.step.visit.Goals as goal

pub returns-then-is_unaskable-clause-jumps : goal.returns-then-is_unaskable-clause-jumps
returns-then-is_unaskable-clause-jumps c = c.of.ensures.jumps c.args.part c.apply-course.ensures.jumps

pub returns-clause-jumps : goal.returns-clause-jumps
returns-clause-jumps c = c.of-2.ensures.jumps c.args.part c.in_ok-course.ensures.jumps
