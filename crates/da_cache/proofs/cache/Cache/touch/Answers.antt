use Rattle.std.proofs.Common.{◌≤◌, ◌∙◌, ap, length, arith}
use Rattle.std.specs.Map.{keys_of}
use Rattle.da_cache.specs.Pairs.{touched, key_touched}
use Rattle.da_cache.proofs.PairLists.{few_touched, kept_touched, keys_touched}
use Rattle.da_cache.proofs.Standing.{standing}
use Rattle.da_cache.proofs.cache.Cache.touch.Goals as goal

pub invariant_of-self : goal.invariant_of-self
invariant_of-self c =
    let few : length (touched c.args.key.now c.self.inside.answers.entries) ≤ c.self.inside.size = omega (arith, few_touched c.args.key.now c.self.inside.answers.entries, c.self.invariant.1) in
    standing c.self.inside.size c.self.inside.answers _ _ c.bring_first.ensures c.self.invariant.0 few (kept_touched c.args.key.now c.self.inside.answers.entries c.self.invariant.2)

pub returns-clause-keys : goal.returns-clause-keys
returns-clause-keys c =
    ap (λ x. keys_of x.entries) c.bring_first.ensures ∙ keys_touched c.args.key.now c.self.inside.answers.entries ∙ ap (λ s. key_touched c.args.key.now (keys_of s.pairs)) c.self.view_is
