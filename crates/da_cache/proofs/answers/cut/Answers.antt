use Rattle.std.proofs.Common.{◌≡◌, ◌≤◌, ◌-◌, ◌∙◌, ap, sym, length, take, arith}
use Rattle.std.proofs.lemmas.List.{take_all}
use Rattle.lru.specs.LruCache.{lru_cache}
use Rattle.da_cache.proofs.answers.cut.Goals as goal

pub returns-then-len-size : goal.returns-then-len-size
returns-then-len-size c =
    let one_less : length c.args.answers.now.entries - 1 ≡ c.args.size = omega (arith, c.if-len-size.true, c.len.ensures.len, c.len.ensures.valid.1, c.requires) in
    c.pop_lru.ensures.entries ∙ ap (λ n. lru_cache (take n c.args.answers.now.entries) c.args.answers.now.cap) one_less

pub returns-else-len-size : goal.returns-else-len-size
returns-else-len-size c =
    let few : length c.args.answers.now.entries ≤ c.args.size = omega (arith, c.if-len-size.false, c.len.ensures.len) in
    ap (λ es. lru_cache es c.args.answers.now.cap) (sym (take_all c.args.size c.args.answers.now.entries few))
