use Rattle.std.proofs.Common.{◌≡◌, drop}
use Rattle.lru.specs.LruCache.{lru_cache}
use Rattle.da_cache.specs.Pairs.{all_touched}
use Rattle.da_cache.proofs.answers.bring_all_first.Given as goal

abbrev pub invariant-loop-key : goal.invariant-loop-key
invariant-loop-key l = lru_cache (all_touched (drop l.key-index l.keys) l.answers.entries) l.answers.cap ≡ lru_cache (all_touched l.keys l.fn.answers.entries) l.fn.answers.cap
