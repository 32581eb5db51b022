use Rattle.std.proofs.Common.{◌≡◌, ◌∙◌, ap, true, false, is_some}
use Rattle.std.specs.Map.{set_value}
use Rattle.lru.specs.LruCache.{lru_cache}
use Rattle.da_keys.specs.Keys.{same_key}
use Rattle.da_cache.specs.Pairs.{number_at}
use Rattle.da_cache.proofs.Found.{written, stays_there}
use Rattle.da_cache.proofs.answers.write_first.Goals as goal

pub returns-in-Some : goal.returns-in-Some
returns-in-Some c =
    ap (λ x. lru_cache (set_value (same_key c.args.key.now) x.entries c.args.number) x.cap) c.bring_first.ensures
    ∙ ap (λ es. lru_cache es c.args.answers.now.cap) (written c.args.key.now c.args.number c.args.answers.now.entries c.requires)

pub returns-in_default : goal.returns-in_default
returns-in_default c =
    let there : is_some (number_at c.args.key.now c.bring_first.new.answers.entries) ≡ true =
    ap (λ x. is_some (number_at c.args.key.now x.entries)) c.bring_first.ensures ∙ stays_there c.args.key.now c.args.answers.now.entries c.requires in
    let clash : false ≡ true = ap is_some c.in_default.ensures.value ∙ there in
    cc
