use Rattle.std.proofs.Common.{◌≤◌, not, length, arith}
use Rattle.std.specs.Str.{bytes_eq}
use Rattle.da_cache.specs.Pairs.{without_user}
use Rattle.da_cache.proofs.PairLists.{few_filtered}
use Rattle.da_cache.proofs.Standing.{standing}
use Rattle.da_cache.proofs.Users.{kept_without_user}
use Rattle.da_cache.proofs.cache.Cache.drop_user.Goals as goal

pub invariant_of-self : goal.invariant_of-self
invariant_of-self c =
    let few : length (without_user c.args.user c.self.inside.answers.entries) ≤ c.self.inside.size =
    omega (arith, few_filtered (λ p. not (bytes_eq c.args.user p.0.user)) c.self.inside.answers.entries, c.self.invariant.1) in
    standing c.self.inside.size c.self.inside.answers _ _ c.take_out_user.ensures c.self.invariant.0 few (kept_without_user c.args.user c.self.inside.answers.entries c.self.invariant.2)
