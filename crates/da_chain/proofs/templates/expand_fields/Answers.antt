use Rattle.std.proofs.Common.{arith}
use Rattle.da_chain.proofs.Expanded.{all_expanded}
use Rattle.da_chain.proofs.templates.expand_fields.Goals as goal

pub returns : goal.returns
returns c =
    all_expanded c.args.vars.now c.loop-key.expanded c.pairs-key-items.result.now c.args.fields.now c.loop-key.key-index c.loop-key.invariant (omega arith)
    c.pairs-key-items.ensures.pairs c.pairs-key-items.ensures.distinct
