use Rattle.da_outside.proofs.Lines.{cut_line, shows_long}
use Rattle.da_outside.proofs.rest.look_ahead.Goals as goal

pub returns-then-near-gt-LONGEST-clause-shows : goal.returns-then-near-gt-LONGEST-clause-shows
returns-then-near-gt-LONGEST-clause-shows c = shows_long c.args.bytes.now c.min.result c.loop-at.at c.min.ensures c.loop-at-test.false c.loop-at.invariant c.if-near-gt-LONGEST.true

pub returns-else-near-gt-LONGEST-clause-end : goal.returns-else-near-gt-LONGEST-clause-end
returns-else-near-gt-LONGEST-clause-end c is = cut_line c.args.bytes.now c.min.result c.loop-at.at c.min.ensures c.loop-at-test.false c.loop-at.invariant c.if-near-gt-LONGEST.false
