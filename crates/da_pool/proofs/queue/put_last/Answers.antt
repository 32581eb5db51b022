use Rattle.std.proofs.Common.{◌∙◌, ◌-◌, ◌≤◌, ap, length, None, arith}
use Rattle.lru.specs.LruCache.{lru_cache}
use Rattle.da_pool.proofs.Entries.{put_behind}
use Rattle.da_pool.proofs.queue.put_last.Goals as goal

pub returns-clause-ok : goal.returns-clause-ok
returns-clause-ok c =
    let few = c.len-is_full.ensures.fits in
    let length_is = c.len-is_full.ensures.len in
    let room : length c.args.queries.now.entries ≤ c.args.queries.now.cap - 1 = omega (arith, few, length_is, c.requires.bound) in
    let last = rw c.in_ok-put.ensures.entries at c.demote.ensures.entries in
    last ∙ ap (λ es. lru_cache es c.args.queries.now.cap) (put_behind c.args.queries.now c.args.number None c.requires.absent room)
