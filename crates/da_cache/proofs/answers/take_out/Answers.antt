use Rattle.std.proofs.Common.{◌∙◌, ap}
use Rattle.lru.specs.LruCache.{lru_cache}
use Rattle.da_cache.proofs.Found.{removed}
use Rattle.da_cache.proofs.answers.take_out.Goals as goal

pub returns : goal.returns
returns c = c.pop.ensures.entries ∙ ap (λ es. lru_cache es c.args.answers.now.cap) (removed c.args.key.now c.args.answers.now.entries c.len-count.ensures.valid.0)
