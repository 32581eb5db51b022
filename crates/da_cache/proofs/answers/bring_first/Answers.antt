use Rattle.std.proofs.Common.{◌∙◌, ap}
use Rattle.lru.specs.LruCache.{lru_cache}
use Rattle.da_cache.proofs.Found.{brought}
use Rattle.da_cache.proofs.answers.bring_first.Goals as goal

pub returns : goal.returns
returns c = c.promote.ensures.entries ∙ ap (λ es. lru_cache es c.args.answers.now.cap) (brought c.args.key.now c.args.answers.now.entries c.len-count.ensures.valid.0)
