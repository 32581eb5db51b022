use Rattle.std.proofs.Common.{ap, sym, Some}
use Rattle.lru.specs.LruCache.{lru_cache}
use Rattle.da_pool.proofs.Entries.{set_absent}
use Rattle.da_pool.proofs.queue.mark_in.Goals as goal

pub returns-in_default-clause-marked : goal.returns-in_default-clause-marked
returns-in_default-clause-marked c =
    ap (λ es. lru_cache es c.args.queries.now.cap) (sym (set_absent c.args.number c.args.queries.now.entries (Some c.args.moment) (sym c.in_default.ensures.value)))
