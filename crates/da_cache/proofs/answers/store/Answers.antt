use Rattle.std.proofs.Common.{◌∙◌, ap}
use Rattle.lru.specs.LruCache.{lru_cache, put_entries}
use Rattle.da_keys.specs.Keys.{same_key}
use Rattle.da_cache.proofs.Found.{stored}
use Rattle.da_cache.proofs.answers.store.Goals as goal

pub returns-clause-ok : goal.returns-clause-ok
returns-clause-ok c =
    c.in_ok-put.ensures.entries
    ∙ ap (λ k. lru_cache (put_entries same_key c.args.answers.now k c.args.number) c.args.answers.now.cap) c.in_ok-copy.ensures
    ∙ ap (λ es. lru_cache es c.args.answers.now.cap) (stored c.args.answers.now c.args.key.now c.args.number c.requires.absent c.requires.place)
