use Rattle.da_entry.proofs.refusals.input_refusal.Goals as goal

pub returns-in-Opened : goal.returns-in-Opened
returns-in-Opened c = rw c.in-Opened.is (c.open_refusal.ensures c.in-Opened.kind c.in-Opened.random c.args.moment)
