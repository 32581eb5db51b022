use Rattle.std.proofs.Common.{◌≤◌, ◌∙◌, ap, not, length, arith}
use Rattle.std.specs.Map.{keys_of}
use Rattle.da_keys.specs.Keys.{same_key, without_key}
use Rattle.da_cache.specs.Pairs.{without_pair}
use Rattle.da_cache.proofs.PairLists.{few_filtered, kept_without, keys_without}
use Rattle.da_cache.proofs.Standing.{standing}
use Rattle.da_cache.proofs.cache.Cache.drop_key.Goals as goal

pub invariant_of-self : goal.invariant_of-self
invariant_of-self c =
    let few : length (without_pair c.args.key.now c.self.inside.answers.entries) ≤ c.self.inside.size =
    omega (arith, few_filtered (λ p. not (same_key c.args.key.now p.0)) c.self.inside.answers.entries, c.self.invariant.1) in
    standing c.self.inside.size c.self.inside.answers _ _ c.take_out.ensures c.self.invariant.0 few (kept_without c.args.key.now c.self.inside.answers.entries c.self.invariant.2)

pub returns-clause-keys : goal.returns-clause-keys
returns-clause-keys c =
    ap (λ x. keys_of x.entries) c.take_out.ensures ∙ keys_without c.args.key.now c.self.inside.answers.entries ∙ ap (λ s. without_key c.args.key.now (keys_of s.pairs)) c.self.view_is
