use Rattle.std.proofs.Common.{◌∙◌, ap}
use Rattle.da_pool.specs.Pools.{has_query}
use Rattle.da_pool.proofs.Steps.{has_it}
use Rattle.da_pool.proofs.pool.Pool.has.Goals as goal

pub returns : goal.returns
returns c = c.has.ensures ∙ has_it c.self.inside.queue c.self.inside.queue _ _ c.self.invariant ∙ ap (has_query c.args.number) c.self.view_is
